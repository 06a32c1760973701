-- Inner contracts: what a word of the text reads as, and what the parser's two passes tell.
use Rattle.std.specs.Prelude.{ℕ, ◌+◌, ◌-◌, List, [], ◌∷◌, Result, Ok, Err, length, take, drop}
use Rattle.tokens.specs.Token.{fault, read_token}
use Rattle.tokens.specs.Words.{Run}
use Rattle.tokens.specs.declared.Fault.{Fault}
use Rattle.tokens.specs.declared.words.Word.{Word}
use Rattle.scramble_parser.specs.Parse.{Reading, codes, bad}

-- a token that starts at `start`, with the place of its fault counted from the text's start
abbrev pub in_text : ℕ → Result ℕ Fault → Result ℕ Fault
in_text start (Ok c) = Ok c
in_text start (Err f) = Err (record { refusal = f.refusal; place = start + f.place })

abbrev pub word_read : ℕ → List ℕ → Word → Result ℕ Fault
word_read n text w = in_text w.start (read_token n (take (w.end - w.start) (drop w.start text)))

-- the answer of the pass that counts, where `count` moves came before
abbrev pub tally : ℕ → Reading → Result ℕ Fault
tally count (codes cs) = Ok (count + length cs)
tally count (bad k at) = Err (fault k at)

abbrev pub up_to : Result ℕ Fault → List ℕ → List ℕ
up_to (Ok c) cs = c ∷ cs
up_to (Err f) cs = []

-- the codes up to the first bad token
unfoldable pub prefix : ℕ → List Run → List ℕ
prefix n [] = []
prefix n (w ∷ ws) = up_to (read_token n w.bytes) (prefix n ws)

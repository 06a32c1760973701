-- Inner contracts: moves that are counted no further than a cap, and stored where there is room.
use Rattle.std.specs.Prelude.{ℕ, ◌+◌, ◌-◌, ◌≤◌, ◌<◌, min, ◌≡◌, true, false, List, Option, None, Some, Result, Ok, Err, length, take, drop}
use Rattle.std.proofs.lemmas.List.Edits.{sets}
use Rattle.ground.specs.Choice.{between}
use Rattle.ground.specs.Refusals.{refusal_no}
use Rattle.generic_cube.specs.Sizes.{sized}
use Rattle.tokens.specs.Token.{fault, read_token}
use Rattle.tokens.specs.declared.Fault.{Fault}
use Rattle.move_lists.specs.Lists.{Turned}
use Rattle.algorithm_parser.specs.Algorithm.{Alg, move, expand}
use Rattle.algorithm_parser.specs.Groups.{Outcome, means, wrong}
use Rattle.algorithm_parser.specs.declared.Read.{Read}

-- the list vs goes to the place j of `out`, and r is the place behind it, as far as the cap: it is stored if there is room for all of it, and what
-- stands before j stays
pub record Filled (cap : ℕ) (out : List ℕ) (j : ℕ) (vs new : List ℕ) (r : ℕ) : Type 0 where
  pub next : r ≡ min (j + length vs) cap
  pub stored : j + length vs ≤ length out → new ≡ sets out j vs
  pub before : take j new ≡ take j out
  pub long : length new ≡ length out

-- a place of the output, of which each is below the cap
pub record Placed (cap : ℕ) (out : List ℕ) (j : ℕ) : Type 0 where
  pub most : j ≤ cap
  pub short : length out < cap

-- a part from j to mid, and the place `to` behind it
pub record Behind (cap : ℕ) (out : List ℕ) (j mid to : ℕ) : Type 0 where
  pub some : j ≤ mid
  pub after : mid ≤ to
  pub placed : Placed cap out to

-- the list vs stands from j to mid, if there is room for it
pub record Standing (cap : ℕ) (out : List ℕ) (j mid : ℕ) (vs : List ℕ) : Type 0 where
  pub ends : mid ≡ min (j + length vs) cap
  pub held : j + length vs ≤ length out → take (length vs) (drop j out) ≡ vs

-- the list that stands from j to mid was put once more from `to` on, wrapped; its codes have turns
pub record Appended (cap : ℕ) (wrap : List ℕ → List ℕ) (out : List ℕ) (j mid to : ℕ) (new : List ℕ) (r : ℕ) : Type 0 where
  pub from : to ≤ r
  pub most : r ≤ cap
  pub before : take to new ≡ take to out
  pub filled : (vs : List ℕ) → Turned vs → Standing cap out j mid vs → Filled cap out to (wrap vs) new r

-- the same for `size` codes that stand there
pub record Transferred (wrap : List ℕ → List ℕ) (out : List ℕ) (j to size : ℕ) (new : List ℕ) : Type 0 where
  pub before : take to new ≡ take to out
  pub stored : Turned (take size (drop j out)) → new ≡ sets out to (wrap (take size (drop j out)))

-- ---- the readers

-- the repeat that a byte asks for: a digit 1 to 9
abbrev pub Repeat : ℕ → Option ℕ → Type 0
Repeat b None = between 49 57 b ≡ false
Repeat b (Some times) = (between 49 57 b ≡ true) × (times ≡ b - 48)

-- what a reader tells of an outcome, and leaves in the output
abbrev pub Told : ℕ → List ℕ → ℕ → Outcome → List ℕ → Result Read Fault → Type 0
Told cap out j (means a e) new (Ok r) = (r.end ≡ e) × Filled cap out j (expand a) new r.next
Told cap out j (means a e) new (Err f) = ⊥
Told cap out j (wrong k p) new (Ok r) = ⊥
Told cap out j (wrong k p) new (Err f) = f ≡ fault k p

-- what a token that stands from s to e reads as
abbrev pub token_alone : Result ℕ Fault → ℕ → ℕ → Outcome
token_alone (Ok c) s e = means (move c) e
token_alone (Err f) s e = wrong (refusal_no f.refusal) (s + f.place)

abbrev pub token_at : ℕ → List ℕ → ℕ → ℕ → Outcome
token_at n text s e = token_alone (read_token n (take (e - s) (drop s text))) s e

-- a reader is lent a place of the text and one of the output
pub record Asked (n : ℕ) (text : List ℕ) (i cap : ℕ) (out : List ℕ) (j : ℕ) : Type 0 where
  pub size : sized n ≡ true
  pub within : i ≤ length text
  pub placed : Placed cap out j

-- an algorithm's moves were put from j to next, where `start` was the output
pub record Laid (cap : ℕ) (start : List ℕ) (j : ℕ) (a : Alg) (out : List ℕ) (next : ℕ) : Type 0 where
  pub filled : Filled cap start j (expand a) out next
  pub turned : Turned (expand a)

-- and those of a second from there on
pub record LaidBoth (cap : ℕ) (start : List ℕ) (j : ℕ) (a : Alg) (mid : ℕ) (b : Alg) (out : List ℕ) (next : ℕ) : Type 0 where
  pub between : List ℕ
  pub first : Laid cap start j a between mid
  pub second : Laid cap between mid b out next

-- the whole text's meaning, if it has one, was put into an output with room for it
abbrev pub Written : Outcome → List ℕ → List ℕ → Type 0
Written (means a e) out new = length (expand a) ≤ length out → new ≡ sets out 0 (expand a)
Written (wrong k p) out new = Unit {0}

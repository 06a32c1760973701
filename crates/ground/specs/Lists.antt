-- Lists: given place by place, by loops, and stored over the front of a slice. A slice of bytes and one of 16-bit numbers are both lists of
-- numbers here, so that each law serves letters, ids and codes alike.
use Rattle.std.specs.Prelude.{ℕ, zero, suc, ◌+◌, List, [], ◌∷◌, ◌++◌, length, drop}

-- f 0, f 1, .., f (m - 1)
unfoldable pub tabulate : ℕ → (ℕ → ℕ) → List ℕ
tabulate zero f = []
tabulate (suc m) f = f zero ∷ tabulate m (λ i. f (suc i))

-- a loop: what f gives for each element, one after the other
unfoldable pub each : List ℕ → (ℕ → List ℕ) → List ℕ
each [] f = []
each (x ∷ xs) f = f x ++ each xs f

-- count numbers from w on
unfoldable pub up_from : ℕ → ℕ → List ℕ
up_from w zero = []
up_from w (suc count) = w ∷ up_from (w + 1) count

-- a list fills the first slots of a slice, what lies past them stays
abbrev pub over : List ℕ → List ℕ → List ℕ
over l out = l ++ drop (length l) out

-- A choice by a test, and the tests of a whole list.
use Rattle.std.specs.Prelude.{ℕ, suc, Bool, true, false, ◌&&◌, List, [], ◌∷◌, eqb, leb}

-- the first where the test holds, else the second
abbrev pub pick {ℓ} : {A : Type ℓ} → Bool → A → A → A
pick true a b = a
pick false a b = b

-- a number is low to high
unfoldable pub between : ℕ → ℕ → ℕ → Bool
between low high x = leb low x && leb x high

-- whether the test holds of an element of the list
unfoldable pub any : (ℕ → Bool) → List ℕ → Bool
any p [] = false
any p (x ∷ xs) = pick (p x) true (any p xs)

-- whether the test holds of every element of the list
unfoldable pub all : (ℕ → Bool) → List ℕ → Bool
all p [] = true
all p (x ∷ xs) = pick (p x) (all p xs) false

-- the place of the first element that is b, the list's length where none is
unfoldable pub position : ℕ → List ℕ → ℕ
position b [] = 0
position b (x ∷ xs) = pick (eqb x b) 0 (suc (position b xs))

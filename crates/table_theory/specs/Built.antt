-- The table that is built: exactly the states reachable from a starting cube by at most `depth` candidates, each with the least such
-- count, in rising order. It is defined level by level; specs/Exact.antt has the rule without levels.
use Rattle.std.specs.Prelude.{ℕ, zero, suc, ◌/◌, eqb, length, take, drop}
use mathlib.Core.List.{List, [], ◌∷◌, ◌++◌, map, Memᴰ}
use Rattle.ground.specs.Choice.{pick}
use Rattle.generic_cube.specs.Sizes.{stickers}
use Rattle.table.specs.Order.{order_of, by_order}
use Rattle.table.specs.Table.{Entry, numbered}
use Rattle.search_theory.specs.CubeSearch.{moved_by}

-- an entry in its place in the rising order, unless its cube is there already
unfoldable pub add : Entry → List Entry → List Entry
add x [] = x ∷ []
add x (y ∷ ys) = by_order (order_of y.key x.key) (y ∷ add x ys) (y ∷ ys) (x ∷ y ∷ ys)

-- the same of each cube of a list, with one number
unfoldable pub add_all : ℕ → List (List ℕ) → List Entry → List Entry
add_all d [] table = table
add_all d (s ∷ ss) table = add_all d ss (add (numbered s d) table)

-- the cubes that one candidate leads to
abbrev pub nexts : ℕ → List ℕ → List ℕ → List (List ℕ)
nexts n moves s = map (λ c. moved_by n c s) moves

unfoldable pub spread : ℕ → List ℕ → List (List ℕ) → List (List ℕ)
spread n moves [] = []
spread n moves (s ∷ ss) = nexts n moves s ++ spread n moves ss

-- the cubes whose number is d
unfoldable pub frontier : ℕ → List Entry → List (List ℕ)
frontier d [] = []
frontier d (x ∷ xs) = pick (eqb x.number d) (x.key ∷ frontier d xs) (frontier d xs)

-- starting cubes have the number 0; what a candidate newly leads to from number d has d + 1
unfoldable pub built : ℕ → List (List ℕ) → List ℕ → ℕ → List Entry
built n starts moves zero = add_all 0 starts []
built n starts moves (suc d) = add_all (suc d) (spread n moves (frontier d (built n starts moves d))) (built n starts moves d)

-- so many cubes of m bytes, one after the other
unfoldable pub cubes : ℕ → ℕ → List ℕ → List (List ℕ)
cubes m zero l = []
cubes m (suc k) l = take m l ∷ cubes m k (drop m l)

abbrev pub starts_of : ℕ → List ℕ → List (List ℕ)
starts_of n starts = cubes (stickers n) (length starts / stickers n) starts

abbrev pub table_of : ℕ → List ℕ → List ℕ → ℕ → List Entry
table_of n starts moves depth = built n (starts_of n starts) moves depth

-- every member of the one is a member of the other
abbrev pub MembersOf {ℓ} : {A : Type ℓ} → List A → List A → Type ℓ
MembersOf {A = A} a b = (x : A) → Memᴰ x a → Memᴰ x b

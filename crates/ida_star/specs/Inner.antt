-- Inner contracts: what the functions inside the search ask of their arguments and tell of their answers.
use Rattle.std.specs.Prelude.{ℕ, ◌+◌, ◌≤◌, ◌≡◌, true, false, not, ltb, List, [], ◌∷◌, ◌++◌, length, take, drop, Option}
use Rattle.ground.specs.Refusals.{◌when◌, lowest}
use Rattle.generic_cube.specs.Sizes.{stickers}
use Rattle.generic_cube.specs.Code.{move_of, bad_code, list_refusal}
use Rattle.generic_cube.specs.Inner.{Fair}
use Rattle.table.specs.Table.{well_formed}
use Rattle.search_theory.specs.Search.{Reply, none, found, Task, dfs}
use Rattle.ida_star.specs.IdaStar.{levels, outcome_of, output_of}

-- what every visit is given: a size, a table and its depth, and candidates, none of which is refused
pub record Given (n : ℕ) (table : List ℕ) (depth : ℕ) (moves : List ℕ) : Type 0 where
  pub some : 1 ≤ n
  pub size : n ≤ 7
  pub shallow : depth ≤ 20
  pub formed : well_formed (stickers n) table ≡ true
  pub listed : list_refusal n moves ≡ 0

-- levels of s bytes: the first stays, the second becomes what f makes of the first, and the rest stay
abbrev pub next : ℕ → (List ℕ → List ℕ) → List ℕ → List ℕ
next s f work = take s work ++ (f (take s work) ++ drop (s + s) work)

-- a code that turns a cube of that size, and room for the next level's cube behind this level's
pub record TurnRoom (n c work : ℕ) : Type 0 where
  pub some : 1 ≤ n
  pub size : n ≤ 7
  pub code : bad_code (move_of c) ≡ false
  pub fair : Fair n (move_of c)
  pub room : stickers n + stickers n ≤ work

-- a visit: a cube for each level left, and slots for the moves made and the moves left
pub record VisitReady (n work path len left : ℕ) : Type 0 where
  pub room : levels n left ≤ work
  pub slots : len + left ≤ path

-- the list that was found, if one was, is in the first slots
abbrev pub Held : Reply → List ℕ → Type 0
Held none path = Unit {0}
Held (found q) path = take (length q) path ≡ q

-- what an answer tells
pub record AnswerTold (reply : Reply) (path : List ℕ) (r : Option ℕ) : Type 0 where
  pub answered : r ≡ outcome_of reply
  pub held : Held reply path

-- what a visit tells, and that it leaves the moves made and its own level's cube
pub record VisitTold (t : Task) (s left len : ℕ) (path path' work work' : List ℕ) (r : Option ℕ) : Type 0 where
  pub told : AnswerTold (dfs t left (take len path) (take s work)) path' r
  pub made : take len path' ≡ take len path
  pub kept : take s work' ≡ take s work

-- a pass: the cube, and a level for each move left and one more
pub record Starting (n : ℕ) (cube : List ℕ) (left work : ℕ) : Type 0 where
  pub whole : length cube ≡ stickers n
  pub low : left ≤ 20
  pub room : levels n left ≤ work

-- the answer of the passes, and what they leave in the output
pub record PassesTold (reply : Reply) (out out' : List ℕ) (r : Option ℕ) : Type 0 where
  pub answered : r ≡ outcome_of reply
  pub written : out' ≡ output_of reply out

-- what is known once the refusals below 8 are past
pub record Late (n limit : ℕ) : Type 0 where
  pub some : 1 ≤ n
  pub size : n ≤ 7
  pub low : limit ≤ 20

-- refusals 8 and 9: the table and the work area
unfoldable pub late_refusal : ℕ → List ℕ → ℕ → ℕ → ℕ
late_refusal n table limit work = lowest (8 when not (well_formed (stickers n) table) ∷ 9 when ltb work (levels n limit) ∷ [])

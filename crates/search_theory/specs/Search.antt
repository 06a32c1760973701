-- The search over any moves, numbers, neighbour rule and candidates, and what is wanted of its answer.
use Rattle.std.specs.Prelude.{ℕ, zero, suc, ◌≤◌, ◌<◌, ◌≡◌, Bool, false, ◌⊎◌, eqb, ltb, length, get_or}
use mathlib.Core.List.{List, [], ◌∷◌, ◌++◌, Memᴰ}
use Rattle.ground.specs.Choice.{pick, position}

-- what a search answers: none, or a list of moves
pub data Reply : Type 0 where
  none : Reply
  found : List ℕ → Reply

-- the first of two answers that is a list
unfoldable pub or_else : Reply → Reply → Reply
or_else none b = b
or_else (found p) b = found p

-- the first list that f answers along its arguments
unfoldable pub first_of : (ℕ → Reply) → List ℕ → Reply
first_of f [] = none
first_of f (c ∷ cs) = or_else (f c) (first_of f cs)

-- what a search is over: the state after a move, the number of a state, which moves may not be neighbours, and the candidates
pub record Task : Type 0 where
  pub moved : ℕ → List ℕ → List ℕ
  pub number : List ℕ → ℕ
  pub barred : ℕ → ℕ → Bool
  pub candidates : List ℕ

-- the same under another neighbour rule
abbrev pub under_rule : (ℕ → ℕ → Bool) → Task → Task
under_rule rule t = record { moved = t.moved; number = t.number; barred = rule; candidates = t.candidates }

-- whether a move may not follow the last of those made so far
unfoldable pub bars : (ℕ → ℕ → Bool) → List ℕ → ℕ → Bool
bars barred [] c = false
bars barred (a ∷ []) c = barred a c
bars barred (a ∷ b ∷ path) c = bars barred (b ∷ path) c

module _ (t : Task) where
  -- the source's `dfs` with so many moves left, after those made so far: a goal has number 0, tested before the bound, and is answered
  -- with the moves made; else each candidate that may follow is made, and the first list found is the answer
  unfoldable pub dfs : ℕ → List ℕ → List ℕ → Reply
  dfs zero path s = pick (eqb (t.number s) 0) (found path) none
  dfs (suc left) path s =
      pick (eqb (t.number s) 0) (found path)
      (pick (ltb (suc left) (t.number s)) none
      (first_of (λ c. pick (bars t.barred path c) none (dfs left (path ++ (c ∷ [])) (t.moved c s))) t.candidates))

  -- the passes with 0, 1, .. moves, n of them, up to the first that finds a list
  unfoldable pub passes : ℕ → List ℕ → Reply
  passes zero s = none
  passes (suc n) s = or_else (passes n s) (dfs n [] s)

  -- `dfs` under rising limits
  abbrev pub ida : ℕ → List ℕ → Reply
  ida limit s = passes (suc limit) s

  -- where a list of moves leads
  unfoldable pub run_task : List ℕ → List ℕ → List ℕ
  run_task [] s = s
  run_task (c ∷ q) s = run_task q (t.moved c s)

  -- a list is allowed if each move is a candidate and no two neighbours are barred
  pub record Allowed (q : List ℕ) : Type 0 where
    pub candidate : (i : ℕ) → i < length q → Memᴰ (get_or q i 0) t.candidates
    pub apart : (i : ℕ) → suc i < length q → t.barred (get_or q i 0) (get_or q (suc i) 0) ≡ false

  -- an allowed list that reaches a goal
  pub record Solves (s q : List ℕ) : Type 0 where
    pub allowed : Allowed q
    pub goal : t.number (run_task q s) ≡ 0

  -- p is no later than q in candidate order, which compares positions from the front
  abbrev pub NoLater : List ℕ → List ℕ → Type 0
  NoLater [] q = Unit {0}
  NoLater (a ∷ p) [] = ⊥
  NoLater (a ∷ p) (b ∷ q) = (position a t.candidates < position b t.candidates) ⊎ ((a ≡ b) × NoLater p q)

  -- the number of each state is never above the length of an allowed list from there to a goal
  abbrev pub Admissible : (List ℕ → Type 0) → Type 0
  Admissible State = (s : List ℕ) → State s → (q : List ℕ) → Solves s q → t.number s ≤ length q

  -- a shortest allowed list that reaches a goal, of those the first in candidate order, and within the limit
  pub record Foremost (limit : ℕ) (s p : List ℕ) : Type 0 where
    pub solves : Solves s p
    pub within : length p ≤ limit
    pub shortest : (q : List ℕ) → Solves s q → length p ≤ length q
    pub leads : (q : List ℕ) → Solves s q → length q ≡ length p → NoLater p q

  -- demand 3: such a list, and none exactly if no allowed list within the limit reaches a goal
  abbrev pub Best : ℕ → List ℕ → Reply → Type 0
  Best limit s none = (q : List ℕ) → Solves s q → length q ≤ limit → ⊥
  Best limit s (found p) = Foremost limit s p

-- Neighbour rules that agree on the candidates give the same search.
use Prim.Native.Nat.{ℕ, zero, suc}
use mathlib.Core.Path.{◌≡◌, refl, sym, ap, ap₂, ◌∙◌}
use mathlib.Core.Bool.{Bool}
use mathlib.Core.List.{List, [], ◌∷◌, ◌++◌, Memᴰ}
use lib.Dec.{eqb, ltb}
use Rattle.ground.specs.Choice.{pick}
use Rattle.search_theory.specs.Search.{none, found, or_else, Task, under_rule, bars, dfs, passes, run_task}
use Rattle.search_theory.proofs.SearchLaws.{first_same, bars_snoc, tried}

-- a list leads where it led
pub rule_run : (rule : ℕ → ℕ → Bool) (t : Task) (p s : List ℕ) → run_task (under_rule rule t) p s ≡ run_task t p s
unfolding run_task
rule_run rule t [] s = refl
rule_run rule t (c ∷ p) s = rule_run rule t p (t.moved c s)

module _ (t : Task) (rule : ℕ → ℕ → Bool) (same : (c d : ℕ) → Memᴰ c t.candidates → Memᴰ d t.candidates → rule c d ≡ t.barred c d) where
  -- they bar the same candidates behind the moves made
  abbrev Agree : List ℕ → Type 0
  Agree path = (c : ℕ) → Memᴰ c t.candidates → bars rule path c ≡ bars t.barred path c

  agree_next : (path : List ℕ) {c : ℕ} → Memᴰ c t.candidates → Agree (path ++ (c ∷ []))
  agree_next path {c} m d l = bars_snoc rule path c d ∙ same c d m l ∙ sym (bars_snoc t.barred path c d)

  rule_dfs : (k : ℕ) (path s : List ℕ) → Agree path → dfs (under_rule rule t) k path s ≡ dfs t k path s
  unfolding dfs
  rule_dfs zero path s a = refl
  rule_dfs (suc k) path s a =
      ap (λ r. pick (eqb (t.number s) 0) (found path) (pick (ltb (suc k) (t.number s)) none r))
      (first_same (tried (under_rule rule t) k path s) (tried t k path s) t.candidates
      (λ c m. ap₂ (λ b r. pick b none r) (a c m) (rule_dfs k (path ++ (c ∷ [])) (t.moved c s) (agree_next path m))))

  pub rule_passes : (n : ℕ) (s : List ℕ) → passes (under_rule rule t) n s ≡ passes t n s
  unfolding passes bars
  rule_passes zero s = refl
  rule_passes (suc n) s = ap₂ or_else (rule_passes n s) (rule_dfs n [] s (λ c m. refl))

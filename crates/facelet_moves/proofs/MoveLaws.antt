-- Places of a slice that are read, moved on and written, as their numbers have it.
use Prim.Native.Nat.{ℕ, ◌+◌, ◌<◌}
use mathlib.Core.Path.{◌≡◌, ap, sym, subst, ◌∙◌}
use mathlib.Core.List.{List}
use native.Mathlib.Omega.{arith}
use lib.ListN.{length, get_or, set, replicate}
use Rattle.std.specs.Prelude.{Ok, Err}
use Rattle.ground.specs.declared.refusals.Refusal.{Refusal}
use Rattle.generic_cube.specs.Answers.{done}
use Rattle.geometric_moves.specs.Turn.{run}
use Rattle.facelet_cube.specs.Apply.{apply_refusal, ApplyMovesResult}
use Rattle.facelet_cube.proofs.ApplyLaws.{runnable, apply_refused, apply_done}
use Rattle.facelet_cube.specs.InnerFacelets.{Pointwise}
use Rattle.facelet_lanes.specs.declared.Ring.{Ring}
use Rattle.facelet_lanes.specs.InnerLanes.{place_on, prior, CellFits, LineFits}
use Rattle.facelet_lanes.proofs.LaneLaws.{LineDone, line_more}

module _ {A : Type 0} {number : A → ℕ} {numbers : List A → List ℕ} (laws : Pointwise number numbers) where
  -- four places written, one after the other
  sets_numbers : (l : List A) (i j k e : ℕ) (a b c d : A)
      → numbers (set (set (set (set l i a) j b) k c) e d) ≡ set (set (set (set (numbers l) i (number a)) j (number b)) k (number c)) e (number d)
  sets_numbers l i j k e a b c d =
      laws.written _ e d
      ∙ (λ s. set (laws.written (set (set l i a) j b) k c s) e (number d))
      ∙ (λ s. set (set (laws.written (set l i a) j b s) k (number c)) e (number d))
      ∙ (λ s. set (set (set (laws.written l i a s) j (number b)) k (number c)) e (number d))

  -- one place more of a line
  pub cell_more : {t p count q long i j k e : ℕ} {r : Ring} {l₀ : List ℕ} {l : List A} {x y z w v₁ v₂ v₃ v₄ : A}
      → LineDone t p count r l₀ (numbers l) q → LineFits p count r long → length l ≡ long → q < count
      → i ≡ place_on r.a p q → j ≡ place_on r.b p q → k ≡ place_on r.c p q → e ≡ place_on r.d p q
      → x ≡ get_or l i x → y ≡ get_or l j y → z ≡ get_or l k z → w ≡ get_or l e w
      → number v₁ ≡ prior t (number w) (number z) (number y) → number v₂ ≡ prior t (number x) (number w) (number z)
      → number v₃ ≡ prior t (number y) (number x) (number w) → number v₄ ≡ prior t (number z) (number y) (number x)
      → LineDone t p count r l₀ (numbers (set (set (set (set l i v₁) j v₂) k v₃) e v₄)) (q + 1)
  cell_more {t} {p} {count} {q} {long} {i} {j} {k} {e} {r} {l₀} {l} {x} {y} {z} {w} {v₁} {v₂} {v₃} {v₄} d f n h ei ej ek ee ex ey ez ew e₁ e₂ e₃ e₄ =
      let c : CellFits r p q long = f.cells q h in
      let nx : number x ≡ get_or (numbers l) i 0 = laws.read l i x (omega (arith, c.at_a.within)) ex in
      let ny : number y ≡ get_or (numbers l) j 0 = laws.read l j y (omega (arith, c.at_b.within)) ey in
      let nz : number z ≡ get_or (numbers l) k 0 = laws.read l k z (omega (arith, c.at_c.within)) ez in
      let nw : number w ≡ get_or (numbers l) e 0 = laws.read l e w (omega (arith, c.at_d.within)) ew in
      subst (λ (m : List ℕ). LineDone t p count r l₀ m (q + 1)) (sym (sets_numbers l i j k e v₁ v₂ v₃ v₄))
      (line_more d h ei ej ek ee
      (e₁ ∙ (λ s. prior t (nw s) (nz s) (ny s))) (e₂ ∙ (λ s. prior t (nx s) (nw s) (nz s)))
      (e₃ ∙ (λ s. prior t (ny s) (nx s) (nw s))) (e₄ ∙ (λ s. prior t (nz s) (ny s) (nx s))))

  -- the entry: its refusal speaks of the lengths of the slices, which are those of their numbers
  module _ (n : ℕ) (cube work : List A) (moves : List ℕ) where
    numbers_refusal : apply_refusal n (length (numbers cube)) (length (numbers work)) moves ≡ apply_refusal n (length cube) (length work) moves
    numbers_refusal = λ s. apply_refusal n (laws.long cube s) (laws.long work s) moves

    pub numbers_refused : {r : Refusal} → Err r ≡ done (apply_refusal n (length cube) (length work) moves)
        → ApplyMovesResult n (numbers cube) (numbers work) moves (numbers cube) (numbers work) (Err r)
    numbers_refused e = apply_refused n (numbers cube) (numbers work) moves (e ∙ ap done (sym numbers_refusal))

    pub numbers_done : {cube' work' : List A} {x : A} → apply_refusal n (length cube) (length work) moves ≡ 0
        → numbers cube' ≡ run n moves (numbers cube) → work' ≡ replicate (length work) x → number x ≡ 0
        → ApplyMovesResult n (numbers cube) (numbers work) moves (numbers cube') (numbers work') (Ok tt)
    numbers_done {cube'} {work'} {x} e d w z =
        let long = (runnable n (length cube) (length work) moves e).work_long in
        apply_done n (numbers cube) (numbers work) moves (numbers_refusal ∙ e) d
        (ap numbers w ∙ laws.cleared (length work) x ∙ (λ s. replicate (long s) (z s)))

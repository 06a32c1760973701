-- `edge_at`: the table's rule, at every entry.
use Prim.Native.Nat.{ℕ, ◌+◌, ◌*◌, ◌<◌}
use mathlib.Core.Path.{◌≡◌, refl, sym, subst}
use mathlib.Core.Bool.{Bool, true, false, not}
use mathlib.Core.List.{[]}
use native.Mathlib.Omega.{arith}
use lib.Dec.{eqb}
use lib.ListN.{get_or}
use borrow.Author.Tests.{eqb-true, not-true}
use Rattle.ground.proofs.ChoiceLaws.{any_below, tested}
use Rattle.facelet_lanes.specs.declared.TheConstants.{RINGS}
use Rattle.facelet_lanes.specs.InnerLanes.{ring_faces, ring_edges}
use Rattle.facelet_lanes.proofs.LaneLaws.{ring_face_lem, ring_edge}
use Rattle.facelet_lanes.proofs.edge_at.Goals as goal

-- a rule that a computed test shows of each lane of each ring
each_lane : (q : ℕ → ℕ → Bool) → any_below (λ r. not (not (any_below (λ k. not (q r k)) 4))) 18 ≡ false → (r k : ℕ) → r < 18 → k < 4 → q r k ≡ true
each_lane q e r k hr hk = tested (q r) 4 (not-true _ (tested (λ x. not (any_below (λ y. not (q x y)) 4)) 18 e r hr)) k hk

face_is : (r k : ℕ) → r < 18 → k < 4 → (get_or (get_or RINGS r []) k (0, 0)).0 ≡ get_or ring_faces (4 * r + k) 0
unfolding ring_faces any_below
face_is r k hr hk = eqb-true _ _ (each_lane (λ x y. eqb (get_or (get_or RINGS x []) y (0, 0)).0 (get_or ring_faces (4 * x + y) 0)) refl r k hr hk)

edge_is : (r k : ℕ) → r < 18 → k < 4 → (get_or (get_or RINGS r []) k (0, 0)).1 ≡ get_or ring_edges (4 * r + k) 0
unfolding ring_edges any_below
edge_is r k hr hk = eqb-true _ _ (each_lane (λ x y. eqb (get_or (get_or RINGS x []) y (0, 0)).1 (get_or ring_edges (4 * x + y) 0)) refl r k hr hk)

pub returns-clause-face : goal.returns-clause-face
returns-clause-face c =
    let a = c.args in
    let e = face_is a.ring a.k c.requires.0 c.requires.1 in
    (e, subst (λ (x : ℕ). x < 6) (sym e) (ring_face_lem (4 * a.ring + a.k) (omega arith)))

pub returns-clause-edge : goal.returns-clause-edge
returns-clause-edge c =
    let a = c.args in
    let e = edge_is a.ring a.k c.requires.0 c.requires.1 in
    (e, subst (λ (x : ℕ). x < 4) (sym e) (ring_edge (4 * a.ring + a.k) (omega arith)))

-- Laws of moved cubes: the sticker at the old place goes to the turned place, and moves of equal kind and width add up.
use Prim.Native.Nat.{ℕ, ◌+◌, ◌-◌, ◌%◌, ◌<◌, ◌≤◌}
use mathlib.Core.Path.{◌≡◌, refl, ap, sym, ◌∙◌}
use mathlib.Core.List.{List, [], ◌∷◌, ◌++◌}
use native.Mathlib.Omega.{arith}
use lib.ListN.{length, get_or}
use lib.Seq.{ext_get_or}
use Rattle.ground.proofs.ListLaws.{length-tabulate, get_d_tabulate}
use Rattle.generic_cube.specs.declared.Move.{Move}
use Rattle.generic_cube.specs.Sizes.{stickers}
use Rattle.generic_cube.specs.Code.{move_of, with_turn, back}
use Rattle.sticker.specs.Place.{place, index}
use Rattle.geometric_moves.specs.Turn.{turned, target, source, moved, run}
use Rattle.geometric_moves.proofs.TurnLaws.{target_below, target-add, target_none}

pub length_moved : (n : ℕ) (m : Move) (l : List ℕ) → length (moved n m l) ≡ stickers n
unfolding moved
length_moved n m l = length-tabulate (stickers n) (λ j. get_or l (source n m j) 0)

pub get_d_moved : (n : ℕ) (m : Move) (l : List ℕ) (j : ℕ) → j < stickers n → get_or (moved n m l) j 0 ≡ get_or l (source n m j) 0
unfolding moved
get_d_moved n m l j h = get_d_tabulate (stickers n) (λ k. get_or l (source n m k) 0) j h

-- the sticker at the old place goes to the turned place; each index of the new cube is fixed by this, as the move back brings it
-- to where it came from
pub moved-target : (n : ℕ) (m : Move) (l : List ℕ) (j : ℕ) → 0 < n → m.turn ≤ 4 → j < stickers n
    → get_or (moved n m l) (index n (turned n m (place n j))) 0 ≡ get_or l j 0
unfolding target source
moved-target n m l j h t k =
    get_d_moved n m l (target n m j) (target_below n m j h)
    ∙ ap (λ i. get_or l i 0) (target-add n m m.turn (4 - m.turn) 0 j h (ap (λ x. x % 4) {x = m.turn + (4 - m.turn)} {y = 4} (omega arith))
    ∙ target_none n m j h k)

-- what is left to 4 adds up as the turns do
rest-add : (x y z : ℕ) → (4 - x + (4 - y)) % 4 ≡ (4 - z) % 4 → x ≤ 4 → y ≤ 4 → z ≤ 4 → (y + x) % 4 ≡ z % 4
rest-add x y z e hx hy hz = omega arith

left_add : (a b c : ℕ) → (a + b) % 4 ≡ c % 4 → a ≤ 4 → b ≤ 4 → c ≤ 4 → (4 - b + (4 - a)) % 4 ≡ (4 - c) % 4
left_add a b c e ha hb hc =
    let s : 4 - (4 - a) + (4 - (4 - b)) ≡ a + b = omega arith in
    let r : c ≡ 4 - (4 - c) = omega arith in
    rest-add (4 - a) (4 - b) (4 - c) (ap (λ x. x % 4) s ∙ e ∙ ap (λ x. x % 4) r) (omega arith) (omega arith) (omega arith)

-- turns of equal kind and width add modulo 4
pub moved-add : (n : ℕ) (m : Move) (a b c : ℕ) (l : List ℕ) → 0 < n → a ≤ 4 → b ≤ 4 → c ≤ 4 → (a + b) % 4 ≡ c % 4
    → moved n (with_turn m b) (moved n (with_turn m a) l) ≡ moved n (with_turn m c) l
unfolding source
moved-add n m a b c l h ha hb hc e =
    ext_get_or 0 _ _ (length_moved n (with_turn m b) (moved n (with_turn m a) l) ∙ sym (length_moved n (with_turn m c) l))
    (λ j hj.
    let k : j < stickers n = omega (arith, length_moved n (with_turn m b) (moved n (with_turn m a) l)) in
    get_d_moved n (with_turn m b) (moved n (with_turn m a) l) j k
    ∙ get_d_moved n (with_turn m a) l (source n (with_turn m b) j) (target_below n (with_turn m (4 - b)) j h)
    ∙ ap (λ i. get_or l i 0) (target-add n m (4 - b) (4 - a) (4 - c) j h (left_add a b c e ha hb hc))
    ∙ sym (get_d_moved n (with_turn m c) l j k))

-- a turn of 0, or of 4, leaves a cube as it was
pub moved_none : (n : ℕ) (m : Move) (t : ℕ) (l : List ℕ) → 0 < n → t ≤ 4 → t % 4 ≡ 0 → length l ≡ stickers n → moved n (with_turn m t) l ≡ l
unfolding source
moved_none n m t l h ht e g =
    ext_get_or 0 _ l (length_moved n (with_turn m t) l ∙ sym g)
    (λ j hj.
    let k : j < stickers n = omega (arith, length_moved n (with_turn m t) l) in
    let s : (0 + (4 - t)) % 4 ≡ 0 % 4 = omega arith in
    get_d_moved n (with_turn m t) l j k
    ∙ ap (λ i. get_or l i 0)
    (ap (target n (with_turn m (4 - t))) (sym (target_none n m j h k)) ∙ target-add n m 0 (4 - t) 0 j h s ∙ target_none n m j h k))

-- a move and then its move back
pub moved_back : (n : ℕ) (m : Move) (l : List ℕ) → 0 < n → m.turn ≤ 4 → length l ≡ stickers n → moved n (back m) (moved n m l) ≡ l
moved_back n m l h t g =
    moved-add n m m.turn (4 - m.turn) 4 l h t (omega arith) (omega arith) (ap (λ x. x % 4) {x = m.turn + (4 - m.turn)} {y = 4} (omega arith))
    ∙ moved_none n m 4 l h (omega arith) refl g

-- lists
pub run-append : (n : ℕ) (a b l : List ℕ) → run n (a ++ b) l ≡ run n b (run n a l)
unfolding run
run-append n [] b l = refl
run-append n (c ∷ a) b l = run-append n a b (moved n (move_of c) l)

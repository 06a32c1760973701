-- Laws of sizes and codes: a code and its move, what a list that is not refused holds, and the walk that finds its refusal.
use Prim.Native.Nat.{ℕ, suc, ◌+◌, ◌*◌, ◌/◌, ◌<◌, ◌≤◌}
use mathlib.Core.Path.{◌≡◌, refl, sym, subst, ◌∙◌}
use mathlib.Core.Bool.{Bool, true, false, true≢false}
use mathlib.Core.List.{List, [], ◌∷◌}
use Rattle.std.specs.Prelude.{Result, Ok, Err}
use native.Mathlib.Omega.{arith}
use native.Mathlib.Numerals.{add-one}
use native.Mathlib.Nat.{mul-le-mul}
use lib.Dec.{ltb, eqb}
use lib.ListN.{length, get_or, drop, drop_of_length-le}
use lib.Seq.{drop-cons}
use borrow.Author.Tests.{ne_eqb, eq-eqb, eqb-false, eqb-true, ltb-false, not-false}
use Rattle.ground.specs.Choice.{pick, any}
use Rattle.ground.specs.declared.refusals.Refusal.{Refusal}
use Rattle.ground.specs.declared.refusals.Refusal.TheVariants.{Code}
use Rattle.ground.specs.Refusals.{lowest}
use Rattle.ground.proofs.ChoiceLaws.{bool_cases, between_bounds, bounds_between, any_none}
use Rattle.ground.proofs.RefusalLaws.{Pass, passed, pass_lowest}
use Rattle.generic_cube.specs.declared.Move.{Move}
use Rattle.generic_cube.specs.Sizes.{sized, small, beyond, stickers}
use Rattle.generic_cube.specs.Code.{code_of, move_of, with_turn, turned_to, is_wide, bad_code, read_code, outside, bad_width_in, rows_in, refusal_in, list_refusal, joins}
use Rattle.generic_cube.specs.Inner.{Sized, Fair}

-- a size that is in range
pub sized_bounds : (n : ℕ) → sized n ≡ true → (1 ≤ n) × (n ≤ 104)
unfolding sized
sized_bounds n e = between_bounds 1 104 n e

pub size_in_range : {n : ℕ} → sized n ≡ true → Sized n
size_in_range {n} e = let b = sized_bounds n e in record { some = b.0; size = b.1 }

pub bounds_sized : (n : ℕ) → 1 ≤ n → n ≤ 104 → sized n ≡ true
unfolding sized
bounds_sized n a b = bounds_between 1 104 n a b

pub small_bounds : (n : ℕ) → small n ≡ true → (1 ≤ n) × (n ≤ 7)
unfolding small
small_bounds n e = between_bounds 1 7 n e

-- a cube of such a size
pub small_cube : (n : ℕ) → n ≤ 7 → stickers n ≤ 294
small_cube n h = mul-le-mul {n₁ = 6 * n} {m₁ = n} {n₂ = 42} {m₂ = 7} (omega arith) h

-- candidates, limit and depth in range
pub record InReach (count limit depth : ℕ) : Type 0 where
  pub few : count ≤ 255
  pub low : limit ≤ 20
  pub shallow : depth ≤ 20

pub in_reach : (count limit depth : ℕ) → beyond count limit depth ≡ false → InReach count limit depth
unfolding beyond
in_reach count limit depth e =
    bool_cases (ltb 255 count)
    (λ t. absurd (true≢false (rw t at e)))
    (λ t. bool_cases (ltb 20 limit)
    (λ u. absurd (true≢false (rw (t, u) at e)))
    (λ u. record { few = ltb-false _ _ t; low = ltb-false _ _ u; shallow = ltb-false _ _ (rw (t, u) at e) }))

-- a width that is not outside its range
pub inside : (low high w : ℕ) → outside low high w ≡ false → (low ≤ w) × (w ≤ high)
unfolding outside
inside low high w e = between_bounds low high w (not-false _ e)

pub inside_not : (low high w : ℕ) → low ≤ w → w ≤ high → outside low high w ≡ false
unfolding outside
inside_not low high w a b = rw (bounds_between low high w a b)

-- ---- a code and its move

pub move_eq : (a b : Move) → a.kind ≡ b.kind → a.width ≡ b.width → a.turn ≡ b.turn → a ≡ b
move_eq a b k w t = λ i. record { kind = k i; width = w i; turn = t i }

pub code_move : (c : ℕ) → code_of (move_of c) ≡ c
unfolding code_of move_of
code_move c = omega arith

pub move_code : (m : Move) → m.kind < 16 → m.turn ≤ 3 → move_of (code_of m) ≡ m
unfolding code_of move_of
move_code m k t = move_eq _ m (omega arith) (omega arith) (omega arith)

pub turn_most : (c : ℕ) → (move_of c).turn ≤ 3
unfolding move_of
turn_most c = omega arith

pub kind_most : (c : ℕ) → (move_of c).kind < 16
unfolding move_of
kind_most c = omega arith

pub width_most : (c : ℕ) → c ≤ 65535 → (move_of c).width ≤ 1023
unfolding move_of
width_most c h = omega arith

-- another turn of a code is that turn of its move
pub move-turned : (c t : ℕ) → t ≤ 3 → move_of (turned_to c t) ≡ with_turn (move_of c) t
unfolding turned_to
move-turned c t h = move_code (with_turn (move_of c) t) (kind_most c) h

-- codes of equal kind and width, and only those, join: they are one move with other turns
pub joins_same : (c d : ℕ) → joins c d ≡ true → ((move_of c).kind ≡ (move_of d).kind) × ((move_of c).width ≡ (move_of d).width)
unfolding joins
joins_same c d e =
    bool_cases (eqb (move_of c).kind (move_of d).kind)
    (λ t. (eqb-true _ _ t, eqb-true _ _ (rw t at e)))
    (λ t. absurd (true≢false (sym (rw t at e))))

pub same_joins : (c d : ℕ) → (move_of c).kind ≡ (move_of d).kind → (move_of c).width ≡ (move_of d).width → joins c d ≡ true
unfolding joins
same_joins c d k w = rw (eq-eqb _ _ k, eq-eqb _ _ w)

pub joins-move : (c d : ℕ) → joins c d ≡ true → move_of d ≡ with_turn (move_of c) (move_of d).turn
joins-move c d e = let s = joins_same c d e in move_eq _ _ (sym s.0) (sym s.1) refl

-- how code tells it: kind and width are equal as one number
pub joins_is : (c d : ℕ) {x y : ℕ} → x ≡ (move_of c).width * 16 + (move_of c).kind → y ≡ (move_of d).width * 16 + (move_of d).kind → eqb x y ≡ joins c d
joins_is c d {x} {y} e f =
    let k = kind_most c in
    let l = kind_most d in
    bool_cases (eqb x y)
    (λ t. let z = eqb-true x y t in t ∙ sym (same_joins c d (omega arith) (omega arith)))
    (λ t. bool_cases (joins c d) (λ u. let s = joins_same c d u in absurd (eqb-false x y t (omega (arith, s.0, s.1)))) (λ u. t ∙ sym u))

pub turned_is : (c t : ℕ) → c / 4 * 4 + t ≡ turned_to c t
unfolding turned_to code_of move_of
turned_is c t = omega arith

-- ---- what is known of a code that is taken

-- a code that is not refused has a turn and a kind
pub code_bounds : (c : ℕ) → bad_code (move_of c) ≡ false → (1 ≤ (move_of c).turn) × ((move_of c).kind < 15)
unfolding bad_code
code_bounds c e =
    let m = move_of c in
    bool_cases (eqb m.turn 0)
    (λ t. absurd (true≢false (rw t at e)))
    (λ t. bool_cases (eqb m.kind 15)
    (λ u. absurd (true≢false (rw (t, u) at e)))
    (λ u.
    let a = eqb-false m.turn 0 t in
    let b = eqb-false m.kind 15 u in
    let k = kind_most c in
    (omega arith, omega arith)))

-- and no width where its kind has none
pub code_width : (c : ℕ) → bad_code (move_of c) ≡ false → is_wide (move_of c).kind ≡ false → (move_of c).width ≡ 0
unfolding bad_code
code_width c e w =
    let k = code_bounds c e in
    let m = move_of c in
    bool_cases (eqb m.width 0)
    (λ v. eqb-true m.width 0 v)
    (λ v. absurd (true≢false (rw (ne_eqb m.turn 0 (omega arith), ne_eqb m.kind 15 (omega arith), w, v) at e)))

pub fair : (n c : ℕ) → 1 ≤ n → bad_code (move_of c) ≡ false → bad_width_in 1 n (move_of c) ≡ false → Fair n (move_of c)
fair n c h e d =
    let k = code_bounds c e in
    record { some = k.0; most = turn_most c; kind = k.1; width = small }
  where
    small : (move_of c).width ≤ n
    small =
        bool_cases (is_wide (move_of c).kind)
        (λ w. (inside 1 n (move_of c).width (rw w at d)).1)
        (λ w. omega (arith, code_width c e w))

-- a code that is taken is its move
pub taken : (c : ℕ) (m : Move) → Ok m ≡ read_code c → (m ≡ move_of c) × (bad_code (move_of c) ≡ false)
unfolding read_code
taken c m e =
    bool_cases (bad_code (move_of c))
    (λ t. let q : Ok m ≡ Err Code = rw t at e in let z : ◌≡◌ {A = ℕ} 0 1 = cc in absurd (omega arith))
    (λ t. let q : Ok m ≡ Ok (move_of c) = rw t at e in (cc, t))

pub refused : (c : ℕ) (r : Refusal) → Err r ≡ read_code c → (r ≡ Code) × (bad_code (move_of c) ≡ true)
unfolding read_code
refused c r e =
    bool_cases (bad_code (move_of c))
    (λ t. let q : ◌≡◌ {A = Result Move Refusal} (Err r) (Err Code) = rw t at e in (cc, t))
    (λ t. let q : Err r ≡ Ok (move_of c) = rw t at e in let z : ◌≡◌ {A = ℕ} 0 1 = cc in absurd (omega arith))

-- no refusal anywhere in a list: no code is bad, and no width
module _ (low high : ℕ) (cs : List ℕ) (e : refusal_in low high cs ≡ 0) where
  rows : Pass (rows_in low high cs)
  unfolding refusal_in
  rows = passed (rows_in low high cs) refl e

  pub code_in : (i : ℕ) → i < length cs → bad_code (move_of (get_or cs i 0)) ≡ false
  code_in i h = any_none (λ c. bad_code (move_of c)) cs rows.0 i h

  pub width_in : (i : ℕ) → i < length cs → bad_width_in low high (move_of (get_or cs i 0)) ≡ false
  width_in i h = any_none (λ c. bad_width_in low high (move_of c)) cs rows.1.0 i h

module _ (low high : ℕ) where
  -- a code that is taken, its width within the range
  pub record Good (c : ℕ) : Type 0 where
    pub code : bad_code (move_of c) ≡ false
    pub width : bad_width_in low high (move_of c) ≡ false

  unfoldable pub AllGood : List ℕ → Type 0
  AllGood [] = Unit {0}
  AllGood (c ∷ cs) = Good c × AllGood cs

  all_at : (cs : List ℕ) → ((i : ℕ) → i < length cs → Good (get_or cs i 0)) → AllGood cs
  unfolding AllGood
  all_at [] f = tt
  all_at (c ∷ cs) f = (f 0 (omega arith), all_at cs (λ i h. f (suc i) (omega arith)))

  -- a list is taken exactly if each of its codes is
  pub taken_good : (cs : List ℕ) → refusal_in low high cs ≡ 0 → AllGood cs
  taken_good cs e = all_at cs (λ i h. record { code = code_in low high cs e i h; width = width_in low high cs e i h })

  good_codes : (cs : List ℕ) → AllGood cs → any (λ c. bad_code (move_of c)) cs ≡ false
  unfolding AllGood any
  good_codes [] g = refl
  good_codes (c ∷ cs) g = rw g.0.code (good_codes cs g.1)

  good_widths : (cs : List ℕ) → AllGood cs → any (λ c. bad_width_in low high (move_of c)) cs ≡ false
  unfolding AllGood any
  good_widths [] g = refl
  good_widths (c ∷ cs) g = rw g.0.width (good_widths cs g.1)

  pub good_taken : (cs : List ℕ) → AllGood cs → refusal_in low high cs ≡ 0
  unfolding refusal_in
  good_taken cs g = pass_lowest (rows_in low high cs) (good_codes cs g, (good_widths cs g, tt))

-- a code of a turn, a kind, and a width where the kind has one, is such a code
pub good_move : (low high : ℕ) (m : Move) → 1 ≤ m.turn → m.turn ≤ 3 → m.kind < 15 → (is_wide m.kind ≡ false → m.width ≡ 0)
    → (is_wide m.kind ≡ true → outside low high m.width ≡ false) → Good low high (code_of m)
unfolding bad_code
good_move low high m l h k w o =
    let e = move_code m (omega arith) h in
    let a = ne_eqb m.turn 0 (omega arith) in
    let b = ne_eqb m.kind 15 (omega arith) in
    bool_cases (is_wide m.kind)
    (λ t. record { code = rw (e, a, b, t); width = rw (e, t) (o t) })
    (λ t. record { code = rw (e, a, b, t, eq-eqb _ _ (w t)); width = rw (e, t) })

-- each of its moves is fair, and is read as itself
module _ (n : ℕ) (cs : List ℕ) (e : list_refusal n cs ≡ 0) where
  pub list_code : (i : ℕ) → i < length cs → bad_code (move_of (get_or cs i 0)) ≡ false
  unfolding list_refusal refusal_in
  list_code i h = code_in 1 n cs e i h

  pub list_fair : (i : ℕ) → 1 ≤ n → i < length cs → Fair n (move_of (get_or cs i 0))
  unfolding list_refusal refusal_in
  list_fair i k h = fair n (get_or cs i 0) k (list_code i h) (width_in 1 n cs e i h)

  -- so a walker that takes its code apart has that move, and meets no refusal
  pub list_taken : {i : ℕ} {m : Move} → 1 ≤ n → i < length cs → Ok m ≡ read_code (get_or cs i 0) → (m ≡ move_of (get_or cs i 0)) × Fair n m
  list_taken {i} {m} k h t =
      let q = (taken (get_or cs i 0) m t).0 in (q, subst (Fair n) (sym q) (list_fair i k h))

  pub list_reads : {i : ℕ} {r : Refusal} → i < length cs → Err r ≡ read_code (get_or cs i 0) → ⊥
  list_reads {i} {r} h t = true≢false (sym (refused (get_or cs i 0) r t).1 ∙ list_code i h)

-- the walk: `r` is what was remembered, and the first code that is refused ends it
unfoldable pub walked : ℕ → ℕ → ℕ → List ℕ → ℕ
walked low high r [] = r
walked low high r (c ∷ cs) = pick (bad_code (move_of c)) 3 (walked low high (pick (bad_width_in low high (move_of c)) 5 r) cs)

pub walked_is : (low high r : ℕ) (cs : List ℕ)
    → walked low high r cs ≡ pick (any (λ c. bad_code (move_of c)) cs) 3 (pick (any (λ c. bad_width_in low high (move_of c)) cs) 5 r)
unfolding walked any
walked_is low high r [] = refl
walked_is low high r (c ∷ cs) =
    bool_cases (bad_code (move_of c)) (λ t. rw t)
    (λ t. bool_cases (bad_width_in low high (move_of c))
    (λ u. rw (t, u, walked_is low high 5 cs) (five (any (λ x. bad_width_in low high (move_of x)) cs)))
    (λ u. rw (t, u) (walked_is low high r cs)))
  where
    five : (b : Bool) → ◌≡◌ {A = ℕ} (pick (any (λ x. bad_code (move_of x)) cs) 3 (pick b 5 5)) (pick (any (λ x. bad_code (move_of x)) cs) 3 5)
    five true = refl
    five false = refl

pub walk_list : (low high : ℕ) (cs : List ℕ) → walked low high 0 cs ≡ refusal_in low high cs
unfolding refusal_in lowest
walk_list low high cs = walked_is low high 0 cs

-- one code on, from place i
module _ (low high r : ℕ) (cs : List ℕ) (i : ℕ) where
  walk_step : i < length cs → walked low high r (drop i cs)
      ≡ pick (bad_code (move_of (get_or cs i 0))) 3 (walked low high (pick (bad_width_in low high (move_of (get_or cs i 0))) 5 r) (drop (i + 1) cs))
  unfolding walked
  walk_step h = rw (add-one i, drop-cons cs i 0 h)

  pub walk_refused : i < length cs → bad_code (move_of (get_or cs i 0)) ≡ true → walked low high r (drop i cs) ≡ 3
  walk_refused h t = rw (walk_step h, t)

  pub walk_next : {b : Bool} {new : ℕ} → i < length cs → bad_code (move_of (get_or cs i 0)) ≡ false → b ≡ bad_width_in low high (move_of (get_or cs i 0))
      → new ≡ pick b 5 r → walked low high new (drop (i + 1) cs) ≡ walked low high r (drop i cs)
  walk_next h t e d = rw (walk_step h, t, d, e)

  pub walk_end : length cs ≤ i → walked low high r (drop i cs) ≡ r
  unfolding walked
  walk_end h = rw (drop_of_length-le cs h)

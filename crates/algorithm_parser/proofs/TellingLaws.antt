-- What a reader tells of an outcome: of a token, of the ends of groups, of a sequence as far as it is read, and of the whole text.
use Prim.Native.Nat.{ℕ, suc, ◌+◌, ◌-◌, ◌<◌}
use mathlib.Core.Path.{◌≡◌, refl, sym, ap, subst, ◌∙◌}
use mathlib.Core.Bool.{true, false}
use mathlib.Core.List.{List, [], ◌∷◌, ◌++◌, append_assoc, append-nil}
use native.Mathlib.Omega.{arith}
use lib.ListN.{length, get_or}
use Rattle.std.specs.Prelude.{Result, Ok, Err}
use borrow.Author.Tests.{eq-eqb, ne_eqb}
use Rattle.ground.specs.Choice.{between}
use Rattle.ground.proofs.ChoiceLaws.{between_bounds}
use Rattle.tokens.specs.declared.Fault.{Fault}
use Rattle.tokens.specs.Token.{fault}
use Rattle.scramble_parser.specs.Inner.{in_text}
use Rattle.ground.proofs.RefusalLaws.{refusal_back}
use Rattle.move_lists.specs.Lists.{inverse}
use Rattle.algorithm_parser.specs.Algorithm.{Alg, repeated, copies, expand}
use Rattle.algorithm_parser.specs.Groups.{round_end, square_end, paired}
use Rattle.algorithm_parser.specs.Inner.{Filled, Placed, Behind, Standing, Appended, Told, token_alone, Laid, LaidBoth}
use Rattle.algorithm_parser.specs.declared.Read.{Read}
use Rattle.algorithm_parser.proofs.RoomLaws.{fill_then, stands_filled, stands_before}

-- where a part ends, and the place behind its moves
abbrev pub read_to : ℕ → ℕ → Read
read_to end next = record { end = end; next = next }

-- ---- a token

module _ (cap : ℕ) (out : List ℕ) (j s e : ℕ) where
  pub token_put : (t : Result ℕ Fault) {c : ℕ} {new : List ℕ} {r : ℕ} → Ok c ≡ in_text s t → Filled cap out j (c ∷ []) new r
      → Told cap out j (token_alone t s e) new (Ok (read_to e r))
  unfolding expand
  token_put (Ok d) {c} {new} {r} q f = let w : c ≡ d = cc in (refl, subst (λ (x : ℕ). Filled cap out j (x ∷ []) new r) w f)
  token_put (Err g) q f = let z : ◌≡◌ {A = ℕ} 0 1 = cc in absurd (omega arith)

  pub token_bad : (t : Result ℕ Fault) {f : Fault} (new : List ℕ) → Err f ≡ in_text s t → Told cap out j (token_alone t s e) new (Err f)
  token_bad (Ok d) new q = let z : ◌≡◌ {A = ℕ} 0 1 = cc in absurd (omega arith)
  token_bad (Err g) new q = rw (refusal_back g.refusal) (let w : Err _ ≡ Err _ = q in cc)

-- ---- the end of a round group

copies_one : (a : Alg) → expand (repeated 1 a) ≡ expand a
unfolding expand copies
copies_one a = append-nil (expand a)

copies_more : (k : ℕ) (a : Alg) → 0 < k → expand (repeated k a) ≡ expand a ++ copies (k - 1) (expand a)
unfolding expand copies
copies_more k a h = let e : k ≡ suc (k - 1) = omega arith in ap (λ (m : ℕ). copies m (expand a)) e

module _ {cap : ℕ} (text : List ℕ) (e : ℕ) {start : List ℕ} {j : ℕ} {a : Alg} {out : List ℕ} {next : ℕ} (l : Laid cap start j a out next) where
  pub round_bad : (get_or text e 0 ≡ 41 → ⊥) → Told cap start j (round_end text a e) out (Err (fault 16 e))
  unfolding round_end
  round_bad h = rw (ne_eqb (get_or text e 0) 41 h) refl

  module _ (sign : get_or text e 0 ≡ 41) where
    pub round_once : between 49 57 (get_or text (e + 1) 0) ≡ false → Told cap start j (round_end text a e) out (Ok (read_to (e + 1) next))
    unfolding round_end
    round_once z =
        rw (eq-eqb (get_or text e 0) 41 sign, z) (refl, subst (λ (vs : List ℕ). Filled cap start j vs out next) (sym (copies_one a)) l.filled)

    pub round_more : {times : ℕ} {new : List ℕ} {r : ℕ} → between 49 57 (get_or text (e + 1) 0) ≡ true → times ≡ get_or text (e + 1) 0 - 48
        → Behind cap out j next next → Appended cap (copies (times - 1)) out j next next new r
        → Told cap start j (round_end text a e) new (Ok (read_to (e + 1 + 1) r))
    unfolding round_end
    round_more {times} {new} {r} digit k b p =
        let d = between_bounds 49 57 (get_or text (e + 1) 0) digit in
        let placed : Placed cap start j = record { most = omega (arith, b.some, b.placed.most); short = omega (arith, l.filled.long, b.placed.short) } in
        let f = fill_then placed l.filled (p.filled (expand a) l.turned (stands_filled l.filled)) in
        rw (eq-eqb (get_or text e 0) 41 sign, digit) (
          omega arith,
          subst (λ (vs : List ℕ). Filled cap start j vs new r)
              (sym (copies_more times a (omega (arith, d.0))) ∙ ap (λ (m : ℕ). expand (repeated m a)) k) f,
        )

-- ---- the end of a square group

conjugate_is : (sign : ℕ) (a b : Alg) → (sign ≡ 44 → ⊥) → expand (paired sign a b) ≡ (expand a ++ expand b) ++ inverse (expand a)
unfolding paired expand
conjugate_is sign a b h = rw (ne_eqb sign 44 h)

commutator_is : (sign : ℕ) (a b : Alg) → sign ≡ 44 → expand (paired sign a b) ≡ ((expand a ++ expand b) ++ inverse (expand a)) ++ inverse (expand b)
unfolding paired expand
commutator_is sign a b h = rw (eq-eqb sign 44 h) (sym (append_assoc (expand a ++ expand b) (inverse (expand a)) (inverse (expand b))))

module _ {cap : ℕ} (text : List ℕ) (sign e : ℕ) {start : List ℕ} {j : ℕ} {a b : Alg} {mid : ℕ} {out : List ℕ} {next : ℕ}
    (l : LaidBoth cap start j a mid b out next) where
  pub square_bad : (get_or text e 0 ≡ 93 → ⊥) → Told cap start j (square_end text (paired sign a b) e) out (Err (fault 16 e))
  unfolding square_end
  square_bad h = rw (ne_eqb (get_or text e 0) 93 h) refl

  module _ (shut : get_or text e 0 ≡ 93) (h : Behind cap out j mid next) {new : List ℕ} {back : ℕ} (p : Appended cap inverse out j mid next new back) where
    square_told : {last : List ℕ} {r : ℕ} → Filled cap start j (expand (paired sign a b)) last r
        → Told cap start j (square_end text (paired sign a b) e) last (Ok (read_to (e + 1) r))
    unfolding square_end
    square_told f = rw (eq-eqb (get_or text e 0) 93 shut) (refl, f)

    placed : Placed cap start j
    placed =
        record {
          most = omega (arith, h.some, h.after, h.placed.most);
          short = omega (arith, l.first.filled.long, l.second.filled.long, h.placed.short);
        }

    -- A, B, A inverted
    three : Filled cap start j ((expand a ++ expand b) ++ inverse (expand a)) new back
    three =
        let s : Standing cap out j mid (expand a)
        = stands_before {out = l.between} {new = out} {to = mid} (omega (arith, l.second.filled.long, h.placed.short)) (omega arith)
        l.second.filled.before l.second.filled.long (stands_filled l.first.filled) in
        fill_then placed (fill_then placed l.first.filled l.second.filled) (p.filled (expand a) l.first.turned s)

    pub square_conjugate : (sign ≡ 44 → ⊥) → Told cap start j (square_end text (paired sign a b) e) new (Ok (read_to (e + 1) back))
    square_conjugate z = square_told (subst (λ (vs : List ℕ). Filled cap start j vs new back) (sym (conjugate_is sign a b z)) three)

    pub square_commutator : sign ≡ 44 → length new ≡ length out → {last : List ℕ} {r : ℕ} → Appended cap inverse new mid next back last r
        → Told cap start j (square_end text (paired sign a b) e) last (Ok (read_to (e + 1) r))
    square_commutator z long {last} {r} q =
        let s : Standing cap new mid next (expand b)
        = stands_before {out = out} {new = new} {to = next} h.placed.short (omega arith) p.before long (stands_filled l.second.filled) in
        square_told (subst (λ (vs : List ℕ). Filled cap start j vs last r) (sym (commutator_is sign a b z))
        (fill_then placed three (q.filled (expand b) l.second.turned s)))

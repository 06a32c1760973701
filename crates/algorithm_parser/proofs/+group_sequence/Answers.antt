use Prim.Native.Nat.{◌+◌, ◌-◌}
use mathlib.Core.Path.{◌≡◌, sym, ◌∙◌}
use native.Mathlib.Omega.{arith}
use mathlib.Core.Bool.{true, ◌||◌}
use lib.Dec.{eqb}
use lib.ListN.{get_or, take, drop}
use Rattle.ground.proofs.RefusalLaws.{passed_on}
use Rattle.tokens.specs.Token.{read_token}
use Rattle.algorithm_parser.specs.Groups.{group_at}
use Rattle.algorithm_parser.specs.Inner.{token_at}
use Rattle.algorithm_parser.proofs.ReaderLaws.{at_none, parting_within}
use Rattle.algorithm_parser.proofs.CycleLaws.{go_end, go_wrong, go_bad, go_more, word_deep, word_group, word_other, word_token, group_end, Part_read, part_read, part_behind, parting_is, group_bad, group_round, group_no_sign, group_second_bad, group_square}
use Rattle.algorithm_parser.proofs.TellingLaws.{token_put, token_bad}
use Rattle.algorithm_parser.proofs.+group_sequence.Goals as goal

pub group-returns-in_err-first : goal.group-returns-in_err-first
group-returns-in_err-first m c =
    let a = c.args in
    let t = a.source in
    rw (passed_on _ c.from_residual.ensures.1) (group_bad t.n t.text.now a.left a.s t.cap a.out.now a.j c.requires.1 _ _ c.in_err-first.ensures)

pub group-round-requires : goal.group-round-requires
group-round-requires m c =
    let a = c.args in
    let t = a.source in
    let first : Part_read t.n t.text.now a.left (a.s + 1) t.cap a.out.now a.j c.sequence.new.out c.in_ok-first.first.end c.in_ok-first.first.next =
    part_read t.n t.text.now a.left (a.s + 1) t.cap a.out.now a.j _ _ (omega (arith, c.requires.1)) c.in_ok-first.ensures in
    (part_behind c.requires.0.placed first, first.within)

pub group-returns-then-source-s-eq40 : goal.group-returns-then-source-s-eq40
group-returns-then-source-s-eq40 m c =
    let a = c.args in
    let t = a.source in
    let first : Part_read t.n t.text.now a.left (a.s + 1) t.cap a.out.now a.j c.sequence.new.out c.in_ok-first.first.end c.in_ok-first.first.next =
    part_read t.n t.text.now a.left (a.s + 1) t.cap a.out.now a.j _ _ (omega (arith, c.requires.1)) c.in_ok-first.ensures in
    group_round t.n t.text.now a.left a.s t.cap a.out.now a.j c.requires.1 first _ _ c.if-source-s-eq40.true (c.round.ensures a.out.now first.meaning first.laid)

pub group-returns-then-not-is_parting : goal.group-returns-then-not-is_parting
group-returns-then-not-is_parting m c =
    let a = c.args in
    let t = a.source in
    let first : Part_read t.n t.text.now a.left (a.s + 1) t.cap a.out.now a.j c.sequence.new.out c.in_ok-first.first.end c.in_ok-first.first.next =
    part_read t.n t.text.now a.left (a.s + 1) t.cap a.out.now a.j _ _ (omega (arith, c.requires.1)) c.in_ok-first.ensures in
    rw c.refuse.ensures (group_no_sign t.n t.text.now a.left a.s t.cap a.out.now a.j c.requires.1 first c.if-source-s-eq40.false
    (parting_is c.at-sign.ensures c.is_parting.ensures c.if-not-is_parting.true))

pub group-sequence-requires-2 : goal.group-sequence-requires-2
group-sequence-requires-2 m c =
    let a = c.args in
    let t = a.source in
    let first : Part_read t.n t.text.now a.left (a.s + 1) t.cap a.out.now a.j c.sequence.new.out c.in_ok-first.first.end c.in_ok-first.first.next =
    part_read t.n t.text.now a.left (a.s + 1) t.cap a.out.now a.j _ _ (omega (arith, c.requires.1)) c.in_ok-first.ensures in
    let parted : (eqb (get_or t.text.now c.in_ok-first.first.end 0) 44 || eqb (get_or t.text.now c.in_ok-first.first.end 0) 58) ≡ true =
    parting_is c.at-sign.ensures c.is_parting.ensures c.if-not-is_parting.false in
    let inside = parting_within t.text.now c.in_ok-first.first.end parted in (
      omega (arith, c.decreases, c.requires.1, first.from, inside),
      record { size = c.requires.0.size; within = omega (arith, inside); placed = (part_behind c.requires.0.placed first).placed },
    )

pub group-returns-in_err-second : goal.group-returns-in_err-second
group-returns-in_err-second m c =
    let a = c.args in
    let t = a.source in
    let first : Part_read t.n t.text.now a.left (a.s + 1) t.cap a.out.now a.j c.sequence.new.out c.in_ok-first.first.end c.in_ok-first.first.next =
    part_read t.n t.text.now a.left (a.s + 1) t.cap a.out.now a.j _ _ (omega (arith, c.requires.1)) c.in_ok-first.ensures in
    let parted : (eqb (get_or t.text.now c.in_ok-first.first.end 0) 44 || eqb (get_or t.text.now c.in_ok-first.first.end 0) 58) ≡ true =
    parting_is c.at-sign.ensures c.is_parting.ensures c.if-not-is_parting.false in
    rw (passed_on _ c.from_residual-in_err-second.ensures.1)
    (group_second_bad t.n t.text.now a.left a.s t.cap a.out.now a.j c.requires.1 first c.if-source-s-eq40.false parted _ _ c.in_err-second.ensures)

pub group-square-requires : goal.group-square-requires
group-square-requires m c =
    let a = c.args in
    let t = a.source in
    let first : Part_read t.n t.text.now a.left (a.s + 1) t.cap a.out.now a.j c.sequence.new.out c.in_ok-first.first.end c.in_ok-first.first.next =
    part_read t.n t.text.now a.left (a.s + 1) t.cap a.out.now a.j _ _ (omega (arith, c.requires.1)) c.in_ok-first.ensures in
    let parted : (eqb (get_or t.text.now c.in_ok-first.first.end 0) 44 || eqb (get_or t.text.now c.in_ok-first.first.end 0) 58) ≡ true =
    parting_is c.at-sign.ensures c.is_parting.ensures c.if-not-is_parting.false in
    let inside = parting_within t.text.now c.in_ok-first.first.end parted in
    let second : Part_read t.n t.text.now a.left (c.in_ok-first.first.end + 1) t.cap c.sequence.new.out c.in_ok-first.first.next c.sequence-2.new.out c.in_ok-second.second.end c.in_ok-second.second.next =
    part_read t.n t.text.now a.left (c.in_ok-first.first.end + 1) t.cap c.sequence.new.out c.in_ok-first.first.next _ _ (omega (arith, inside)) c.in_ok-second.ensures in
    let x = part_behind c.requires.0.placed first in
    let y = part_behind x.placed second in
    (record { some = x.some; after = y.some; placed = y.placed }, second.within)

pub group-returns : goal.group-returns
group-returns m c =
    let a = c.args in
    let t = a.source in
    let first : Part_read t.n t.text.now a.left (a.s + 1) t.cap a.out.now a.j c.sequence.new.out c.in_ok-first.first.end c.in_ok-first.first.next =
    part_read t.n t.text.now a.left (a.s + 1) t.cap a.out.now a.j _ _ (omega (arith, c.requires.1)) c.in_ok-first.ensures in
    let parted : (eqb (get_or t.text.now c.in_ok-first.first.end 0) 44 || eqb (get_or t.text.now c.in_ok-first.first.end 0) 58) ≡ true =
    parting_is c.at-sign.ensures c.is_parting.ensures c.if-not-is_parting.false in
    let inside = parting_within t.text.now c.in_ok-first.first.end parted in
    let second : Part_read t.n t.text.now a.left (c.in_ok-first.first.end + 1) t.cap c.sequence.new.out c.in_ok-first.first.next c.sequence-2.new.out c.in_ok-second.second.end c.in_ok-second.second.next =
    part_read t.n t.text.now a.left (c.in_ok-first.first.end + 1) t.cap c.sequence.new.out c.in_ok-first.first.next _ _ (omega (arith, inside)) c.in_ok-second.ensures in
    group_square t.n t.text.now a.left a.s t.cap a.out.now a.j c.requires.1 first c.if-source-s-eq40.false parted _ c.at-sign.result _ second c.at-sign.ensures
    (c.square.ensures a.out.now first.meaning second.meaning (record { between = c.sequence.new.out; first = first.laid; second = second.laid }))

pub sequence-returns-then-left-eq0 : goal.sequence-returns-then-left-eq0
sequence-returns-then-left-eq0 m c =
    let a = c.args in
    rw c.refuse.ensures (go_wrong c.loop-word.invariant
    (word_deep a.source.n a.source.text.now a.left c.in-Some.ensures (sym c.is_opening.ensures ∙ c.if-is_opening.true) c.if-left-eq0.true))

pub sequence-returns-in_err-read : goal.sequence-returns-in_err-read
sequence-returns-in_err-read m c =
    let a = c.args in
    rw (passed_on _ c.from_residual.ensures.1)
    (go_bad c.loop-word.invariant (group_at a.source.n a.source.text.now (a.left - 1) _)
    (word_group a.source.n a.source.text.now a.left c.in-Some.ensures (sym c.is_opening.ensures ∙ c.if-is_opening.true) c.if-left-eq0.false)
    _ _ c.in_err-read.ensures)

pub sequence-loop-word-smaller-then-is_opening : goal.sequence-loop-word-smaller-then-is_opening
sequence-loop-word-smaller-then-is_opening m c =
    let a = c.args in
    let w = c.in-Some.ensures in
    let d = group_end a.source.n a.source.text.now (a.left - 1) _ a.source.cap _ _ _ _ (omega (arith, w.some, w.within)) c.in_ok-read.ensures in
    omega (arith, w.from, d.0, d.1)

pub sequence-loop-word-preserved-then-is_opening : goal.sequence-loop-word-preserved-then-is_opening
sequence-loop-word-preserved-then-is_opening m c =
    let a = c.args in
    let w = c.in-Some.ensures in
    let d = group_end a.source.n a.source.text.now (a.left - 1) _ a.source.cap _ _ _ _ (omega (arith, w.some, w.within)) c.in_ok-read.ensures in
    go_more c.loop-word.invariant (group_at a.source.n a.source.text.now (a.left - 1) _)
    (word_group a.source.n a.source.text.now a.left w (sym c.is_opening.ensures ∙ c.if-is_opening.true) c.if-left-eq0.false)
    _ _ c.in_ok-read.ensures (omega (arith, w.from, d.0)) d.1

pub sequence-returns-then-is_group_sign : goal.sequence-returns-then-is_group_sign
sequence-returns-then-is_group_sign m c =
    let a = c.args in
    go_end c.loop-word.invariant
    (word_other a.source.n a.source.text.now a.left c.in-Some.ensures (sym c.is_opening.ensures ∙ c.if-is_opening.false) (sym c.is_group_sign.ensures ∙ c.if-is_group_sign.true))

pub sequence-returns-in_err-code : goal.sequence-returns-in_err-code
sequence-returns-in_err-code m c =
    let a = c.args in
    let w = c.in-Some.word in
    rw (passed_on _ c.from_residual-in_err-code.ensures.1)
    (go_bad c.loop-word.invariant (token_at a.source.n a.source.text.now w.start w.end)
    (word_token a.source.n a.source.text.now a.left c.in-Some.ensures (sym c.is_opening.ensures ∙ c.if-is_opening.false) (sym c.is_group_sign.ensures ∙ c.if-is_group_sign.false))
    _ _ (token_bad a.source.cap c.loop-word.out c.loop-word.read.next w.start w.end (read_token a.source.n (take (w.end - w.start) (drop w.start a.source.text.now))) _ c.in_err-code.ensures))

pub sequence-loop-word-preserved : goal.sequence-loop-word-preserved
sequence-loop-word-preserved m c =
    let a = c.args in
    let w = c.in-Some.word in
    let f = c.in-Some.ensures in
    go_more c.loop-word.invariant (token_at a.source.n a.source.text.now w.start w.end)
    (word_token a.source.n a.source.text.now a.left f (sym c.is_opening.ensures ∙ c.if-is_opening.false) (sym c.is_group_sign.ensures ∙ c.if-is_group_sign.false))
    _ _ (token_put a.source.cap c.loop-word.out c.loop-word.read.next w.start w.end (read_token a.source.n (take (w.end - w.start) (drop w.start a.source.text.now))) c.in_ok-code.ensures c.put.ensures)
    (omega (arith, f.from, f.some)) (omega (arith, f.within))

pub sequence-returns : goal.sequence-returns
sequence-returns m c =
    let a = c.args in go_end c.loop-word.invariant (at_none a.source.n a.source.text.now a.left c.loop-word.read.end c.in_default.ensures)

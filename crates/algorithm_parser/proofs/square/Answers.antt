use mathlib.Core.Path.{sym, ◌∙◌}
use Rattle.algorithm_parser.proofs.TellingLaws.{square_bad, square_conjugate, square_commutator}
use Rattle.algorithm_parser.proofs.square.Goals as goal

pub returns-then-at-ne93 : goal.returns-then-at-ne93
returns-then-at-ne93 c = λ start a b l. rw c.refuse.ensures (square_bad _ _ _ l (λ w. c.if-at-ne93.true (c.at.ensures ∙ w)))

pub returns-then-sign-ne44 : goal.returns-then-sign-ne44
returns-then-sign-ne44 c = λ start a b l. square_conjugate _ _ _ l (sym c.at.ensures ∙ c.if-at-ne93.false) c.requires.0 c.put_inverse-next.ensures c.if-sign-ne44.true

pub returns : goal.returns
returns c = λ start a b l. square_commutator _ _ _ l (sym c.at.ensures ∙ c.if-at-ne93.false) c.requires.0 c.put_inverse-next.ensures c.if-sign-ne44.false c.put_inverse-next.auto.out c.put_inverse-next-2.ensures

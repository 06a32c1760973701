-- `enter`: a key that is not there goes to the end, and into the slot that was found for it.
use Prim.Native.Nat.{ℕ, ◌<◌}
use mathlib.Core.Path.{◌≡◌, sym, subst, ◌∙◌}
use mathlib.Core.Bool.{true≢false}
use mathlib.Core.List.{List}
use mathlib.Core.Logic.{◌⊎◌, ⊎_elim}
use native.Mathlib.Omega.{arith}
use lib.Arith.{lt_of_le-ne}
use lib.ListN.{length}
use Rattle.std.specs.Prelude.{Option, Some, None}
use Rattle.table.specs.Entries.{entry_key, Present}
use Rattle.table.specs.Table.{entry_count}
use Rattle.key_index.specs.declared.Classes.{Classes}
use Rattle.key_index.specs.declared.Found.{Found}
use Rattle.key_index.specs.declared.Found.TheVariants.{Here, Absent, Outside}
use Rattle.key_index.specs.Inner.{Sought}
use Rattle.key_index.proofs.IndexLaws.{index_more, free_inside}
use Rattle.table_level.specs.Inner.{Entered, crowded}
use Rattle.table_level.proofs.LevelLaws.{widen_none, append_key, append_new, enter_stay, enter_full, enter_new}
use Rattle.table_level.proofs.enter.Goals as goal
use Rattle.table_level.proofs.enter.Goals.{in-Some, in_default, Else-count-table, In-Some}

-- what a look-up that finds no empty slot says, and what the others say
kept : (m count : ℕ) (t s index : List ℕ) (k : Classes) {r : Found} → (r ≡ Here) ⊎ (r ≡ Outside) → Sought m count t s index k r → Entered m k s t count
kept m count t s index k q h =
    ⊎_elim (λ e. let p = subst (Sought m count t s index k) e h in λ w. p) (λ e. let p = subst (Sought m count t s index k) e h in λ w. absurd (p w)) q

missing : (m count : ℕ) (t s index : List ℕ) (k : Classes) (slot : Option ℕ) → Sought m count t s index k (Absent slot) → Present (entry_key m t) count s → ⊥
missing m count t s index k None h = h.0
missing m count t s index k (Some p) h = h.0

-- there is room for it
room : (c : Else-count-table) → c.args.count < entry_count c.args.m c.args.table.now
room c = lt_of_le-ne c.requires.2.room c.if-count-table.false

-- and a slot, in an index
inside : (c : In-Some) → c.in-Some.p < length c.args.index.now
inside c =
    let a = c.args in
    let g = subst (λ o. Sought a.m a.count a.table.now a.key.now a.index.now a.classes (Absent o)) c.in-Some.is c.in-Absent.ensures in
    free_inside (c.requires.2.filed g.1) a.key.now g.2

pub returns-in-Here : goal.returns-in-Here
returns-in-Here c = enter_stay c.requires.2 (kept _ _ _ _ c.args.index.now c.args.classes c.in-Here.is c.find.ensures)

pub returns-in-Lost : goal.returns-in-Lost
returns-in-Lost c = crowded (widen_none c.requires.2.room) c.in-Lost.ensures

pub returns-then-count-table : goal.returns-then-count-table
returns-then-count-table c =
    enter_full c.requires.2.room c.if-count-table.true (missing _ _ _ _ c.args.index.now c.args.classes c.in-Absent.slot c.in-Absent.ensures)

pub offset_bounds-index-p : goal.offset_bounds-index-p
offset_bounds-index-p c = omega (arith, inside c)

pub bounds-index-p : goal.bounds-index-p
bounds-index-p c = inside c

pub returns : goal.returns
returns c =
    let a = c.args in
    let r = room (goal.at.returns c).Else-count-table in
    elim c.match-slot.branch [
      | in-Some w ↦
          let g = subst (λ o. Sought a.m a.count a.table.now a.key.now a.index.now a.classes (Absent o)) w.in-Some.is c.in-Absent.ensures in
          let i = c.requires.2.filed g.1 in
          rw w.index-is
          (enter_new c.requires.2 c.requires.1 r g.0 c.append.ensures
          (λ e. index_more _ _ _ i
          (append_key a.m a.number a.count a.key.now a.table.now c.requires.1 r g.0 c.append.ensures)
          (append_new a.m a.number a.count a.key.now a.table.now c.requires.1 r g.0 c.append.ensures)
          g.2 (free_inside i _ g.2)))
      | in_default w ↦
          let g = subst (λ o. Sought a.m a.count a.table.now a.key.now a.index.now a.classes (Absent o)) w.in_default.is c.in-Absent.ensures in
          rw w.index-is (enter_new c.requires.2 c.requires.1 r g.0 c.append.ensures (λ e. absurd (true≢false (sym g.1 ∙ e))))
    ]

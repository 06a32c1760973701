-- Which cubes and candidates there are decides the table: their order and their repeats change nothing.
use Prim.Native.Nat.{ℕ, zero, suc}
use mathlib.Core.Path.{◌≡◌, ap₂}
use mathlib.Core.List.{List, Memᴰ}
use lib.Seq.{ext_get_or}
use Rattle.search_theory.specs.Levels.{ReachIn}
use Rattle.table.specs.Table.{Entry, numbered}
use Rattle.table_theory.specs.Built.{built, MembersOf}
use Rattle.table.proofs.EntryListLaws.{no_entry}
use Rattle.table_theory.proofs.AddLaws.{Sorted, sorted_rising}
use Rattle.search_theory.specs.CubeSearch.{moved_by}
use Rattle.table_theory.proofs.CountLaws.{Counts, built_counts, built_sorted, counts_exact}
use Rattle.table_theory.proofs.RisingLaws.{exact_count, exact_key, exact_number}

-- two sorted tables that hold the least counts of the same states are one
counts_one : (n : ℕ) (starts : List (List ℕ)) (moves : List ℕ) (depth : ℕ) {a b : List Entry} → Sorted a → Sorted b
    → Counts n starts moves depth a → Counts n starts moves depth b → a ≡ b
counts_one n starts moves depth {a} {b} sa sb ca cb =
    let u = sorted_rising a sa in
    let w = sorted_rising b sb in
    let e = counts_exact n starts moves ca in
    let f = counts_exact n starts moves cb in
    ext_get_or no_entry a b (exact_count (moved_by n) moves (λ s. Memᴰ s starts) u w e f)
    (λ i h.
    ap₂ numbered (exact_key (moved_by n) moves (λ s. Memᴰ s starts) u w e f i h) (exact_number (moved_by n) moves (λ s. Memᴰ s starts) u w e f i h))

-- the same cubes and candidates, in any order and however often, give the same table
reach_within : (n : ℕ) {starts starts' : List (List ℕ)} {moves moves' : List ℕ} → MembersOf starts starts' → MembersOf moves moves'
    → (j : ℕ) (s : List ℕ) → ReachIn (moved_by n) moves (λ k. Memᴰ k starts) j s → ReachIn (moved_by n) moves' (λ k. Memᴰ k starts') j s
reach_within n f g zero s r = f s r
reach_within n f g (suc j) s r =
    record { state = r.state; move = r.move; from = reach_within n f g j r.state r.from; candidate = g r.move r.candidate; leads = r.leads }

pub same_members : (n : ℕ) {starts starts' : List (List ℕ)} {moves moves' : List ℕ} (depth : ℕ) → MembersOf starts starts' → MembersOf starts' starts
    → MembersOf moves moves' → MembersOf moves' moves → built n starts moves depth ≡ built n starts' moves' depth
same_members n {starts} {starts'} {moves} {moves'} depth f f' g g' =
    let c = built_counts n starts moves depth in
    counts_one n starts' moves' depth (built_sorted n starts moves depth) (built_sorted n starts' moves' depth)
    (record {
      shallow = c.shallow;
      right = λ x m.
          let l = c.right x m in
          record { reached = reach_within n f g x.number x.key l.reached; least = λ j h r. l.least j h (reach_within n f' g' j x.key r) };
      whole = λ j s h r. c.whole j s h (reach_within n f' g' j s r);
    })
    (built_counts n starts' moves' depth)

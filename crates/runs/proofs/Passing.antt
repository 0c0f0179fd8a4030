-- Working out a row and submitting one keep a sheet and its history in step. Assumes nothing.
use Rattle.std.proofs.Common.{◌≡◌, ℕ, ◌≤◌, List, ◌∷◌, length, take, drop, None, sym, refl, ◌∙◌, subst, inl, arith}
use Rattle.std.specs.List.{ContainsAt, AllByRecursion}
use Rattle.std.proofs.lemmas.List.{length-map, length-take, length-drop, length-append, take_at}
use Rattle.std.proofs.ByRecursion.{all-has}
use Rattle.std.proofs.lemmas.Bool.Decides.{nat_tests}
use Rattle.laws.specs.Books.{Emergencies, Services, Distances, Laws}
use Rattle.rules.specs.Rules.{Lawful}
use Rattle.rows.specs.Drawings.{track_drawn}
use Rattle.rows.specs.Targets.{mark_of}
use Rattle.rows.specs.Passing.{read_code, codes_of}
use Rattle.rows.specs.WorkingOut.{Unworked}
use Rattle.rows.specs.Examining.{Failed}
use Rattle.rows.proofs.Verdicts.{passed_from_worked, not_failed_from_passed}
use Rattle.sheet.specs.Sheets.{Heading, Tables, closed, Sheet, drawn}
use Rattle.sheet.specs.Changes.{row_written}
use Rattle.sheet.specs.Faults.{submit_fault, row_table_size}
use Rattle.runs.specs.Orders.{Lent, lent_tables, Outcome, done, worked, refused, unworked}
use Rattle.runs.specs.Orders.Order.{work_out, submit}
use Rattle.runs.specs.Runs.{WorksOut, Submits}
use Rattle.runs.specs.Runs.WorksOut.{works, works_not}
use Rattle.runs.specs.Runs.Submits.{passes, fails}
use Rattle.runs.specs.Law.{Sizes, WorkedRow}
use Rattle.runs.proofs.Following.{WorkedOn, In, Follows, Kept}
use Rattle.runs.proofs.Changed.{sound_row}
use Rattle.runs.proofs.Standing.{drawn_well, interval_most}
use Rattle.runs.proofs.Unchanged.{kept_unchanged}

-- ---- the row table
row_long : (heading : Heading) (lent : Lent) (tables : Tables) → submit_fault heading (lent_tables lent tables) ≡ None → row_table_size ≤ length tables.row
row_long heading lent tables none =
    let long : row_table_size ≤ length (take lent.row tables.row) = grind (arith, nat_tests) in
    omega (arith, length-take lent.row tables.row)

module _ (row table : List ℕ) where
  row_read : (h : ℕ) → length row ≡ h → take h (row_written row table) ≡ row
  row_read h long = take_at row (drop (length row) table) h (omega arith)

  row_size : length row ≤ length table → length (row_written row table) ≡ length table
  row_size fits = omega (arith, length-append row (drop (length row) table), length-drop (length row) table)

-- ---- the two calls
module _ (E : Emergencies) (D : Services) (distances : Distances E D) (laws : Laws E D) (sizes : Sizes) (rows : List WorkedRow) (sought : ℕ)
    (s : Sheet) (follows : Follows E D distances laws sizes rows sought s) (is-closed : s.phase ≡ closed) (lent : Lent) (mark approach : ℕ) where
  worked_rows : AllByRecursion (WorkedOn E D distances laws (drawn s.heading s.tables)) rows
  worked_rows = subst (In E D distances laws (drawn s.heading s.tables) s.tables.row rows sought) is-closed follows.inside

  pub kept_work_out : (bytes : List ℕ) (t : Sheet) {o : Outcome} → WorksOut E D s mark approach bytes o → t ≡ s
      → Kept E D distances laws sizes rows sought s (record { lent = lent; order = work_out mark approach bytes }) o t
  kept_work_out bytes t (works {row} {letter} {place} found long) same =
      subst (Kept E D distances laws sizes rows sought s (record { lent = lent; order = work_out mark approach bytes }) (worked row letter place)) (sym same) (record {
        right = (found, long);
        drawing = refl;
        follows = record {
          sound = follows.sound;
          inside = subst (In E D distances laws (drawn s.heading s.tables) s.tables.row (record { mark = mark; approach = approach; row = row } ∷ rows) sought)
              (sym is-closed) ((letter, place, found), worked_rows);
        };
      })
  kept_work_out bytes t (works_not {n} why) same =
      kept_unchanged E D distances laws sizes rows sought s follows (record { lent = lent; order = work_out mark approach bytes }) (unworked bytes n) t refl same
      (λ is. subst (Unworked (drawn s.heading s.tables) mark approach E D bytes) is why)

  module _ (row : List ℕ) where
    -- a row that was worked out does not fail
    not_failed : (n : ℕ × List ℕ) → ContainsAt rows (record { mark = mark; approach = approach; row = row }) → Failed (drawn s.heading s.tables) mark approach E D row n → ⊥
    not_failed n has =
        let found = all-has (WorkedOn E D distances laws (drawn s.heading s.tables)) rows (record { mark = mark; approach = approach; row = row }) worked_rows has in
        not_failed_from_passed (drawn s.heading s.tables) mark approach E D row n
        (passed_from_worked (drawn s.heading s.tables) mark approach E D row found.0 found.1 found.2)

    pub kept_submit : (t : Sheet) → submit_fault s.heading (lent_tables lent s.tables) ≡ None → {o : Outcome} → Submits E D s mark approach row o t
        → Kept E D distances laws sizes rows sought s (record { lent = lent; order = submit mark approach row }) o t
    kept_submit t none (passes pass is) =
        let d = drawn s.heading s.tables in
        let located = pass.asked.located in
        let long : length row ≡ pass.target.held.interval = sym (length-map row read_code) ∙ pass.lawful.size in
        let fits : length row ≤ length s.tables.row =
        omega (arith, interval_most sizes s.heading s.tables follows.sound mark pass.target located, row_long s.heading lent s.tables none) in
        subst (Kept E D distances laws sizes rows sought s (record { lent = lent; order = submit mark approach row }) done) (sym is) (record {
          right = λ has enough. inl refl;
          drawing = refl;
          follows = record {
            sound = sound_row sizes s.heading s.tables follows.sound (row_written row s.tables.row) (row_size row s.tables.row fits);
            inside = (
              worked_rows,
              record {
                target = pass.target;
                located = located;
                mark = refl;
                stands = drawn_well sizes s.heading s.tables follows.sound mark pass.target located;
                lawful = subst (λ bytes. Lawful (track_drawn d) (mark_of pass.target) E D pass.speed (codes_of bytes))
                    (sym (row_read row s.tables.row pass.target.held.interval long)) pass.lawful;
              },
            );
          };
        })
    kept_submit t none (fails {n = n} failed is) =
        kept_unchanged E D distances laws sizes rows sought s follows (record { lent = lent; order = submit mark approach row }) (refused n) t refl is
        (λ has enough. absurd (not_failed n has failed))

-- What submitting promises is what runs say of it. Assumes nothing.
use Rattle.std.proofs.Common.{◌≡◌, ℕ, ◌≤◌, min, Bool, true, false, ◌||◌, List, [], ◌++◌, length, take, drop, None, Ok, Err, Result, sym, refl, ap, ◌∙◌, subst, arith, length-take}
use Rattle.std.proofs.lemmas.Bool.Decides.{nat_tests}
use Rattle.std.proofs.lemmas.List.{length-map, take-append-drop}
use Rattle.codes.specs.declared.refusals.Refusal.TheVariants.{Size}
use Rattle.codes.specs.Refusals.{notice}
use Rattle.ground.specs.Tables.{contents}
use Rattle.laws.specs.Books.{Emergencies, Services}
use Rattle.rules.specs.declared.lines.Interval.{Interval}
use Rattle.rules.specs.Rules.{Lawful}
use Rattle.rows.specs.Drawings.{Drawing, lengths_of, track_drawn}
use Rattle.rows.specs.Targets.{mark_of}
use Rattle.rows.specs.Passing.{codes_of}
use Rattle.rows.specs.Asking.{Asked}
use Rattle.rows.specs.Examining.{Passed, Failed}
use Rattle.entering.specs.Faults.{first}
use Rattle.sheet.specs.Sheets.{Tables, Pass, Sheet, drawn, closed, passed}
use Rattle.sheet.specs.Changes.{with_row}
use Rattle.sheet.specs.Faults.{lent_short, row_short, row_table_size}
use Rattle.sheet.specs.States.{closed_heading, pass_of, book_of}
use Rattle.sheet.specs.Promises.{Submitted, PassesTo}
use Rattle.sheet.specs.declared.base.Base.{Base}
use Rattle.sheet.specs.declared.closed.ClosedSheet.{ClosedSheet}
use Rattle.sheet.specs.declared.passed.PassedSheet.{PassedSheet}
use Rattle.sheet.specs.declared.refused.Refused.{Refused}
use Rattle.runs.specs.Orders.{Lent, lent_tables, done, refused}
use Rattle.runs.specs.Orders.Order.{submit}
use Rattle.runs.specs.Runs.{passes, fails}
use Rattle.replay.specs.Meaning.{Performed}
use Rattle.replay.proofs.Ruling.{on_base, call, ruled_none, ruled_some}
use Rattle.replay.proofs.Drawn.{drawn_part}
use Rattle.replay.proofs.Parts.{take_within, drop_within, row_part}

either_fails : (a b : Bool) → (a || b) ≡ false → (a ≡ false) × (b ≡ false)
either_fails a b e = (grind (arith, nat_tests), grind (arith, nat_tests))

-- no mark stands in an interval behind those in use
reached : (intervals : List Interval) (count i : ℕ) → i ≤ length (lengths_of (contents intervals count)) → i ≤ count
reached intervals count i le =
    let many = length-map (contents intervals count) (λ (interval : Interval). interval.length) in
    let few = length-take count intervals in
    omega arith

module _ {B : Type 0} (book : B) (E : Emergencies) (D : Services) (lent : Lent) (tables : Tables) (s : ClosedSheet) (mark approach : ℕ) (row : List ℕ) where
  abbrev here : Sheet
  here = on_base s.base tables closed

  abbrev parts : Tables
  parts = lent_tables lent tables

  abbrev too_short : Bool
  too_short = lent_short (closed_heading s) parts || row_short parts.row

  abbrev Promised : Bool → Result (PassedSheet B) (Refused ClosedSheet) → List ℕ → Type 0
  Promised b r bytes = Submitted book b (drawn (closed_heading s) parts) mark approach E D row s parts.row r bytes

  -- the row table once the lent part of it holds these bytes
  abbrev filled : List ℕ → Tables
  filled bytes = with_row (bytes ++ drop lent.row tables.row) tables

  -- a pass over the lent records is one over the whole tables
  over_all : lent_short (closed_heading s) parts ≡ false → (p : Passed (drawn (closed_heading s) parts) mark approach E D row) → Passed (drawn (closed_heading s) tables) mark approach E D row
  over_all e p = let whole = drawn_part lent (closed_heading s) tables e in record {
    target = p.target;
    speed = p.speed;
    spelt = p.spelt;
    asked = subst (λ (d : Drawing). Asked d mark approach p.target p.speed) whole p.asked;
    lawful = subst (λ (d : Drawing). Lawful (track_drawn d) (mark_of p.target) E D p.speed (codes_of row)) whole p.lawful;
  }

  submits_to : (q : PassedSheet B) (bytes : List ℕ) → too_short ≡ false → PassesTo book (drawn (closed_heading s) parts) mark approach E D row s parts.row q bytes
      → Performed E D here (call lent (submit mark approach row)) done (on_base q.base (filled bytes) (passed (pass_of q)))
  unfolding over_all
  submits_to q bytes e h =
      let fits = either_fails (lent_short (closed_heading s) parts) (row_short parts.row) e in
      let p = h.pass in
      let near : p.target.held.interval ≤ row_table_size =
      (let few = s.base.few in let last = reached parts.intervals s.base.intervals p.target.held.interval p.asked.located.held.last in omega arith) in
      let long : length row ≡ p.target.held.interval = sym (length-map row _) ∙ p.lawful.size in
      let room : length row ≤ length parts.row = (let enough = fits.1 in grind (arith, nat_tests)) in
      let holds = ap (λ (xs : List ℕ). xs ++ drop lent.row tables.row) h.holds ∙ row_part lent.row row tables.row room in
      record {
        paces = [];
        does = ruled_none E D here (submit mark approach row) _ done [] _ (ap (λ (b : Bool). first b Size None) e) (
          passes (over_all fits.0 p)
              (ap (λ (b : Base). on_base b (filled bytes) (passed (pass_of q))) h.base
              ∙ ap (λ (pass : Pass). on_base s.base (filled bytes) (passed pass)) h.fixes
              ∙ ap (λ (xs : List ℕ). on_base s.base (with_row xs tables) (passed (record { mark = mark_of p.target; approach = p.speed }))) holds),
          refl,
        );
      }

  submits_lent : (q : PassedSheet B) (bytes : List ℕ) → Promised too_short (Ok q) bytes
      → Performed E D here (call lent (submit mark approach row)) done (on_base q.base (filled bytes) (passed (pass_of q))) × (book_of q ≡ book)
  submits_lent q bytes h = go too_short refl h
    where
      go : (b : Bool) → too_short ≡ b → Promised b (Ok q) bytes
          → Performed E D here (call lent (submit mark approach row)) done (on_base q.base (filled bytes) (passed (pass_of q))) × (book_of q ≡ book)
      go true e h = absurd h
      go false e h = (submits_to q bytes e h, h.serves)

  submits_lent_not : (x : Refused ClosedSheet) (bytes : List ℕ) → Promised too_short (Err x) bytes
      → Performed E D here (call lent (submit mark approach row)) (refused (notice x.why)) (on_base x.sheet.base (filled bytes) closed)
  submits_lent_not x bytes h = go too_short refl h
    where
      same : x.sheet ≡ s → bytes ≡ parts.row → on_base x.sheet.base (filled bytes) closed ≡ here
      same a b = ap (λ (u : ClosedSheet). on_base u.base (filled bytes) closed) a
          ∙ ap (λ (xs : List ℕ). on_base s.base (with_row xs tables) closed) (ap (λ (xs : List ℕ). xs ++ drop lent.row tables.row) b ∙ take-append-drop lent.row tables.row)

      go : (b : Bool) → too_short ≡ b → Promised b (Err x) bytes → Performed E D here (call lent (submit mark approach row)) (refused (notice x.why)) (on_base x.sheet.base (filled bytes) closed)
      go true e h = record {
        paces = [];
        does =
            ruled_some E D here (submit mark approach row) _ (refused (notice x.why)) _ Size (ap (λ (b : Bool). first b Size None) e) (ap refused h.0) (same h.1 h.2);
      }
      go false e h = record {
        paces = [];
        does = ruled_none E D here (submit mark approach row) _ (refused (notice x.why)) [] _ (ap (λ (b : Bool). first b Size None) e) (
          fails (subst (λ (d : Drawing). Failed d mark approach E D row (notice x.why))
              (drawn_part lent (closed_heading s) tables (either_fails (lent_short (closed_heading s) parts) (row_short parts.row) e).0) h.0)
              (same h.1 h.2),
          refl,
        );
      }

  -- what is promised of tables t, of a row and of a row table of n bytes that are what is lent
  module _ (t : Tables) (given : List ℕ) (n : ℕ) (are : t ≡ with_row [] parts) (is : given ≡ row) (room : n ≡ min lent.row (length tables.row)) where
    abbrev Given : Result (PassedSheet B) (Refused ClosedSheet) → List ℕ → Type 0
    Given r bytes = Submitted book (lent_short (closed_heading s) t || row_short (take n tables.row)) (drawn (closed_heading s) t) mark approach E D given s (take n tables.row) r bytes

    abbrev left_by : List ℕ → Tables
    left_by bytes = with_row (bytes ++ drop n tables.row) tables

    by_parts : (r : Result (PassedSheet B) (Refused ClosedSheet)) (bytes : List ℕ) → Given r bytes → Promised too_short r bytes
    by_parts r bytes h =
        subst (λ (x : List ℕ). Submitted book too_short (drawn (closed_heading s) parts) mark approach E D x s parts.row r bytes) is
        (subst (λ (x : Tables). Submitted book (lent_short (closed_heading s) x || row_short parts.row) (drawn (closed_heading s) x) mark approach E D given s parts.row r bytes) are
        (subst (λ (x : List ℕ). Submitted book (lent_short (closed_heading s) t || row_short x) (drawn (closed_heading s) t) mark approach E D given s x r bytes)
        (ap (λ m. take m tables.row) room ∙ take_within lent.row tables.row) h))

    rest : (bytes : List ℕ) → filled bytes ≡ left_by bytes
    rest bytes = ap (λ (xs : List ℕ). with_row (bytes ++ xs) tables) (sym (ap (λ m. drop m tables.row) room ∙ drop_within lent.row tables.row))

    pub submits : (q : PassedSheet B) (bytes : List ℕ) → Given (Ok q) bytes
        → Performed E D here (call lent (submit mark approach row)) done (on_base q.base (left_by bytes) (passed (pass_of q))) × (book_of q ≡ book)
    submits q bytes h =
        let whole = submits_lent q bytes (by_parts (Ok q) bytes h) in
        (subst (λ (x : Tables). Performed E D here (call lent (submit mark approach row)) done (on_base q.base x (passed (pass_of q)))) (rest bytes) whole.0, whole.1)

    pub submits_not : (x : Refused ClosedSheet) (bytes : List ℕ) → Given (Err x) bytes
        → Performed E D here (call lent (submit mark approach row)) (refused (notice x.why)) (on_base x.sheet.base (left_by bytes) closed)
    submits_not x bytes h =
        subst (λ (y : Tables). Performed E D here (call lent (submit mark approach row)) (refused (notice x.why)) (on_base x.sheet.base y closed)) (rest bytes)
        (submits_lent_not x bytes (by_parts (Err x) bytes h))

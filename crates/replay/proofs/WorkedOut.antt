-- What working out promises is what runs say of it. Assumes nothing.
use Rattle.std.proofs.Common.{◌≡◌, ℕ, Bool, true, false, List, [], length, None, Ok, Err, Result, sym, refl, ap, ◌∙◌, subst}
use Rattle.codes.specs.declared.refusals.Refusal.{Refusal}
use Rattle.codes.specs.declared.refusals.Refusal.TheVariants.{Size}
use Rattle.codes.specs.Refusals.{notice}
use Rattle.laws.specs.Books.{Emergencies, Services}
use Rattle.rows.specs.declared.letters.StopLetter.{StopLetter}
use Rattle.rows.specs.Drawings.{Drawing}
use Rattle.rows.specs.WorkingOut.{Worked, Unworked}
use Rattle.entering.specs.Faults.{first}
use Rattle.sheet.specs.Sheets.{Tables, Sheet, drawn, closed}
use Rattle.sheet.specs.Changes.{with_row}
use Rattle.sheet.specs.Faults.{lent_short}
use Rattle.sheet.specs.States.{closed_heading}
use Rattle.sheet.specs.Promises.{Works}
use Rattle.sheet.specs.declared.closed.ClosedSheet.{ClosedSheet}
use Rattle.runs.specs.Orders.{Lent, Outcome, lent_tables, worked, unworked}
use Rattle.runs.specs.Orders.Order.{work_out}
use Rattle.runs.specs.Runs.{Performs, works, works_not}
use Rattle.replay.specs.Meaning.{Performed}
use Rattle.replay.proofs.Ruling.{clash, on_base, call, ruled_none, ruled_some}
use Rattle.replay.proofs.Drawn.{drawn_part}

module _ (E : Emergencies) (D : Services) (lent : Lent) (tables : Tables) (s : ClosedSheet) (mark approach : ℕ) (bytes : List ℕ) where
  abbrev here : Sheet
  here = on_base s.base tables closed

  -- what is promised of the parts t that are lent, over the bytes before
  abbrev Promised : Tables → List ℕ → Bool → Result (StopLetter × ℕ) Refusal → List ℕ → Type 0
  Promised t before b r row = Works b (drawn (closed_heading s) t) mark approach E D before r row

  abbrev Done : Outcome → Type 0
  Done outcome = Performed E D here (call lent (work_out mark approach bytes)) outcome here

  abbrev too_short : Bool
  too_short = lent_short (closed_heading s) (lent_tables lent tables)

  -- no row table goes with a work-out
  by_parts : (t : Tables) (before : List ℕ) (r : Result (StopLetter × ℕ) Refusal) (row : List ℕ) → t ≡ with_row [] (lent_tables lent tables) → before ≡ bytes
      → Promised t before (lent_short (closed_heading s) t) r row → Promised (lent_tables lent tables) bytes too_short r row
  by_parts t before r row e b h =
      subst (λ (x : List ℕ). Promised (lent_tables lent tables) x too_short r row) b
      (subst (λ (x : Tables). Promised x before (lent_short (closed_heading s) x) r row) e h)

  pub works_out : (t : Tables) (before : List ℕ) → t ≡ with_row [] (lent_tables lent tables) → before ≡ bytes → (answer : StopLetter × ℕ) (row : List ℕ) → length row ≡ length bytes
      → Promised t before (lent_short (closed_heading s) t) (Ok answer) row → Done (worked row answer.0 answer.1)
  works_out t before parts over answer row long h = go too_short refl (by_parts t before (Ok answer) row parts over h)
    where
      go : (b : Bool) → too_short ≡ b → Promised (lent_tables lent tables) bytes b (Ok answer) row → Done (worked row answer.0 answer.1)
      go true e h = clash (let k = h.0 in cc)
      go false e h = record {
        paces = [];
        does = ruled_none E D here (work_out mark approach bytes) _ (worked row answer.0 answer.1) [] here (ap (λ (b : Bool). first b Size None) e)
            (works (subst (λ (d : Drawing). Worked d mark approach E D row answer.0 answer.1) (drawn_part lent (closed_heading s) tables e) h) long, refl, refl);
      }

  pub works_out_not : (t : Tables) (before : List ℕ) → t ≡ with_row [] (lent_tables lent tables) → before ≡ bytes → (why : Refusal) (after : List ℕ)
      → Promised t before (lent_short (closed_heading s) t) (Err why) after → Done (unworked after (notice why))
  works_out_not t before parts over why after h = go too_short refl (by_parts t before (Err why) after parts over h)
    where
      go : (b : Bool) → too_short ≡ b → Promised (lent_tables lent tables) bytes b (Err why) after → Done (unworked after (notice why))
      go true e h =
          let ten = h.0 in
          let size : notice why ≡ notice Size = cc in
          record {
            paces = [];
            does = ruled_some E D here (work_out mark approach bytes) _ (unworked after (notice why)) here Size (ap (λ (b : Bool). first b Size None) e)
                (ap (λ (xs : List ℕ). unworked xs (notice why)) h.1 ∙ ap (unworked bytes) size) refl;
          }
      go false e h = record {
        paces = [];
        does = ruled_none E D here (work_out mark approach bytes) _ (unworked after (notice why)) [] here (ap (λ (b : Bool). first b Size None) e)
            (subst (λ (xs : List ℕ). Performs E D here (work_out mark approach bytes) (unworked xs (notice why)) [] here) (sym h.1)
            (works_not (subst (λ (d : Drawing). Unworked d mark approach E D bytes (notice why)) (drawn_part lent (closed_heading s) tables e) h.0), refl, refl));
      }

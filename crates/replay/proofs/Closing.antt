-- What closing and reopening promise is what runs say of them. Assumes nothing.
use Rattle.std.proofs.Common.{◌≡◌, List, [], take, Ok, Err, Option, Result, refl, ap, subst}
use Rattle.rules.specs.declared.lines.Interval.{Interval}
use Rattle.rules.specs.declared.lines.StopMark.{StopMark}
use Rattle.codes.specs.declared.refusals.Refusal.{Refusal}
use Rattle.codes.specs.Refusals.{notice}
use Rattle.laws.specs.Books.{Emergencies, Services}
use Rattle.sheet.specs.Sheets.{Tables, drawing, closed}
use Rattle.sheet.specs.Faults.{close_fault}
use Rattle.sheet.specs.States.{open_heading}
use Rattle.sheet.specs.Promises.{Closes}
use Rattle.sheet.specs.declared.base.Base.{Base}
use Rattle.sheet.specs.declared.open.OpenSheet.{OpenSheet}
use Rattle.sheet.specs.declared.closed.ClosedSheet.{ClosedSheet}
use Rattle.sheet.specs.declared.refused.Refused.{Refused}
use Rattle.runs.specs.Orders.{Lent, done, refused}
use Rattle.runs.specs.Orders.Order.{close, reopen}
use Rattle.replay.specs.Meaning.{Performed}
use Rattle.replay.proofs.Ruling.{on_base, call, ruled_none, ruled_some}

module _ (E : Emergencies) (D : Services) (lent : Lent) (tables : Tables) where
  -- what is due by the parts that are lent
  by_parts : (s : OpenSheet) (r : Result ClosedSheet (Refused OpenSheet)) {intervals : List Interval} {marks : List StopMark}
      → intervals ≡ take lent.intervals tables.intervals → marks ≡ take lent.marks tables.marks
      → Closes (close_fault (open_heading s) intervals marks) s r
      → Closes (close_fault (open_heading s) (take lent.intervals tables.intervals) (take lent.marks tables.marks)) s r
  by_parts s r {marks = marks} i m h =
      subst (λ xs. Closes (close_fault (open_heading s) (take lent.intervals tables.intervals) xs) s r) m
      (subst (λ xs. Closes (close_fault (open_heading s) xs marks) s r) i h)

  abbrev due : OpenSheet → Option Refusal
  due s = close_fault (open_heading s) (take lent.intervals tables.intervals) (take lent.marks tables.marks)

  pub closes : (s : OpenSheet) (q : ClosedSheet) {intervals : List Interval} {marks : List StopMark}
      → intervals ≡ take lent.intervals tables.intervals → marks ≡ take lent.marks tables.marks
      → Closes (close_fault (open_heading s) intervals marks) s (Ok q)
      → Performed E D (on_base s.base tables drawing) (call lent close) done (on_base q.base tables closed)
  closes s q i m promised =
      let h = by_parts s (Ok q) i m promised in
      record {
        paces = [];
        does = ruled_none E D (on_base s.base tables drawing) close (due s) done [] (on_base q.base tables closed) h.0
            (refl, refl, ap (λ (b : Base). on_base b tables closed) h.1);
      }

  pub closes_not : (s : OpenSheet) (x : Refused OpenSheet) {intervals : List Interval} {marks : List StopMark}
      → intervals ≡ take lent.intervals tables.intervals → marks ≡ take lent.marks tables.marks
      → Closes (close_fault (open_heading s) intervals marks) s (Err x)
      → Performed E D (on_base s.base tables drawing) (call lent close) (refused (notice x.why)) (on_base x.sheet.base tables drawing)
  closes_not s x i m promised =
      let h = by_parts s (Err x) i m promised in
      record {
        paces = [];
        does = ruled_some E D (on_base s.base tables drawing) close (due s) (refused (notice x.why)) (on_base x.sheet.base tables drawing) x.why h.0 refl
            (ap (λ (u : OpenSheet). on_base u.base tables drawing) h.1);
      }

  pub reopens : (s : ClosedSheet) (q : OpenSheet) → q.base ≡ s.base
      → Performed E D (on_base s.base tables closed) (call lent reopen) done (on_base q.base tables drawing)
  reopens s q e = record { paces = []; does = (refl, refl, ap (λ (b : Base). on_base b tables drawing) e) }

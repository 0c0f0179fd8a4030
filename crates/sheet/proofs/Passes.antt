-- What a pass fixes, and that a sheet's rows are short. Assumes nothing.
use Rattle.std.proofs.Common.{◌≡◌, ℕ, ◌≤◌, Bool, true, false, ◌||◌, List, length, None, Ok, Err, Result, sym, refl, ap, ◌∙◌, subst, arith}
use Rattle.std.proofs.lemmas.List.{length-map, length-take}
use Rattle.codes.specs.declared.refusals.Refusal.{Refusal}
use Rattle.entering.proofs.Rulings.{none_from_first}
use Rattle.laws.specs.Books.{Emergencies, Services}
use Rattle.rules.specs.declared.lines.Interval.{Interval}
use Rattle.rows.specs.declared.letters.StopLetter.{StopLetter}
use Rattle.rows.specs.declared.targets.Target.{Target}
use Rattle.rows.specs.Drawings.{Drawing}
use Rattle.rows.specs.Targets.{mark_of, LocatedAt}
use Rattle.rows.specs.Passing.{read_code}
use Rattle.rows.specs.WorkedOut.{Short}
use Rattle.sheet.specs.Sheets.{Heading, Tables, Pass, drawn}
use Rattle.sheet.specs.Faults.{lent_fault, lent_short}
use Rattle.sheet.specs.Changes.{row_written}
use Rattle.sheet.specs.States.{heading_of, book_of}
use Rattle.sheet.specs.Judging.{Fixes, Judged}
use Rattle.sheet.specs.Promises.{Works, Submitted, PassesTo}
use Rattle.sheet.specs.declared.base.Base.{Base}
use Rattle.sheet.specs.declared.fixed.Fixed.{Fixed}
use Rattle.sheet.specs.declared.closed.ClosedSheet.{ClosedSheet}
use Rattle.sheet.specs.declared.passed.PassedSheet.{PassedSheet}

-- a mark's interval is one of the line's
pub place_bounded : (drawing : Drawing) (number : ℕ) (target : Target) (most : ℕ) → length drawing.intervals ≤ most → LocatedAt drawing number target → target.held.interval ≤ most
place_bounded drawing number target most few located =
    let last = located.held.last in
    let long = length-map drawing.intervals (λ (interval : Interval). interval.length) in
    omega arith

-- a sheet has 64 intervals at most
pub few_drawn : (base : Base) (tables : Tables) (line : Drawing) → line ≡ drawn (heading_of base) tables → length line.intervals ≤ 64
few_drawn base tables line is =
    let same = ap (λ (d : Drawing). length d.intervals) is in
    let long = length-take base.intervals tables.intervals in
    let few = base.few in
    omega arith

-- memory for a byte of each interval is never wanting
pub roomy : (drawing : Drawing) (number approach : ℕ) (before : List ℕ) (room : ℕ) → length drawing.intervals ≤ room → Short drawing number approach before room → ⊥
roomy drawing number approach before room few short =
    let place = place_bounded drawing number short.target room few short.asked.located in
    let less = short.short in
    omega arith

module _ (mark approach : ℕ) (E : Emergencies) (D : Services) (row : List ℕ) where
  -- what a pass over the line that was read fixes, it fixes over the records in use
  pub judged : (heading : Heading) (tables : Tables) (line : Drawing) (fixed : Fixed) → lent_fault heading tables ≡ None → line ≡ drawn heading tables
      → Fixes line mark approach E D row fixed → Judged (lent_short heading tables) (drawn heading tables) mark approach E D row (Ok fixed)
  judged heading tables line fixed none same fixes =
      let long = (none_from_first _ _ _ none).0 in
      let drawn-so = subst (λ d. Fixes d mark approach E D row fixed) same fixes in
      subst (λ (short : Bool). Judged short (drawn heading tables) mark approach E D row (Ok fixed)) (sym long) drawn-so

  -- what is worked out over the line that was read is worked out over the records in use
  pub works_over : (heading : Heading) (tables : Tables) (line : Drawing) (before after : List ℕ) (r : Result (StopLetter × ℕ) Refusal)
      → lent_fault heading tables ≡ None → line ≡ drawn heading tables
      → Works false line mark approach E D before r after → Works (lent_short heading tables) (drawn heading tables) mark approach E D before r after
  works_over heading tables line before after r none same works =
      let long = (none_from_first _ _ _ none).0 in
      let drawn-so = subst (λ d. Works false d mark approach E D before r after) same works in
      subst (λ (short : Bool). Works short (drawn heading tables) mark approach E D before r after) (sym long) drawn-so

  fixed_by : (short : Bool) (drawing : Drawing) (fixed : Fixed) → Judged short drawing mark approach E D row (Ok fixed) → (short ≡ false) × Fixes drawing mark approach E D row fixed
  fixed_by true drawing fixed none = absurd none
  fixed_by false drawing fixed fixes = (refl, fixes)

  -- the row that passed is no longer than the interval's place
  pub row_bounded : (short : Bool) (drawing : Drawing) (fixed : Fixed) → Judged short drawing mark approach E D row (Ok fixed) → length row ≤ 64
  row_bounded short drawing fixed h =
      let fixes = (fixed_by short drawing fixed h).1 in
      let size = sym (length-map row read_code) ∙ fixes.pass.lawful.size in
      let held = ap (λ (t : Target). t.held.interval) fixes.target in
      let near = fixed.near in
      omega arith

  -- a row table with room is not what a submission is refused for
  pub submitted : {B : Type 0} (book : B) (short row_lent : Bool) (drawing : Drawing) (sheet : ClosedSheet) (table : List ℕ) (passed : PassedSheet B) (left : List ℕ)
      → row_lent ≡ false → Judged short drawing mark approach E D row (Ok passed.fixed) → passed.base ≡ sheet.base → book_of passed ≡ book → left ≡ row_written row table
      → Submitted book (short || row_lent) drawing mark approach E D row sheet table (Ok passed) left
  submitted {B} book short row_lent drawing sheet table passed left roomy h base serves holds =
      let found = fixed_by short drawing passed.fixed h in
      let long : (short || row_lent) ≡ false = rw (found.0, roomy) refl in
      let fixed = found.1 in
      let target = fixed.target in
      let speed = fixed.speed in
      let fixes : ◌≡◌ {A = Pass} (record { mark = mark_of passed.fixed.target; approach = passed.fixed.approach }) (record { mark = mark_of fixed.pass.target; approach = fixed.pass.speed }) = cc in
      let passes : PassesTo book drawing mark approach E D row sheet table passed left = record { pass = fixed.pass; base = base; fixes = fixes; serves = serves; holds = holds } in
      subst (λ (b : Bool). Submitted book b drawing mark approach E D row sheet table (Ok passed) left) (sym long) passes

  pub not_submitted : {B : Type 0} (book : B) (short row_lent : Bool) (drawing : Drawing) (sheet : ClosedSheet) (table : List ℕ) (why : Refusal)
      → row_lent ≡ false → Judged short drawing mark approach E D row (Err why)
      → Submitted book (short || row_lent) drawing mark approach E D row sheet table (Err (record { sheet = sheet; why = why })) table
  not_submitted book true row_lent drawing sheet table why roomy h = (h, refl, refl)
  not_submitted book false true drawing sheet table why roomy h = cc
  not_submitted book false false drawing sheet table why roomy h = (h, refl, refl)

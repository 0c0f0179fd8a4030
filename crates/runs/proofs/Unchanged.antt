-- A call that is not done leaves the sheet and its history as they were, and its answer is right. Assumes nothing.
use Rattle.std.proofs.Common.{◌≡◌, ℕ, Bool, true, false, cond, List, [], length, take, Some, None, sym, refl, ap, ◌∙◌, subst, inr, arith}
use Rattle.std.proofs.lemmas.Bool.{le-ltb}
use Rattle.std.proofs.lemmas.List.{length-take}
use Rattle.std.proofs.lemmas.Bool.Decides.{nat_tests}
use Rattle.codes.specs.declared.refusals.Refusal.{Refusal}
use Rattle.codes.specs.declared.refusals.Refusal.TheVariants as refusal
use Rattle.codes.specs.Refusals.{notice}
use Rattle.laws.specs.Books.{Emergencies, Services, Distances, Laws}
use Rattle.entering.specs.Faults.{first}
use Rattle.sheet.specs.Sheets.{Heading, Tables, Sheet, drawn}
use Rattle.sheet.specs.Faults.{submit_fault, lent_short, row_short, row_table_size}
use Rattle.runs.specs.Orders.{Lent, lent_tables, Order, Call, Outcome, accepted, refusing}
use Rattle.runs.specs.Orders.Order.{work_out, submit}
use Rattle.runs.specs.Orders.Outcome.{not_taken}
use Rattle.runs.specs.Runs.{fault}
use Rattle.runs.specs.Law.{Sizes, WorkedRow, History, Enough, Right, entered, rows_after}
use Rattle.runs.proofs.Following.{Sound, Follows, Kept, history_on}
use Rattle.runs.proofs.Tables.{not_short}
use Rattle.runs.proofs.Unaccepted.{rows_same, sought_same, not_accepted}

-- a table lent under its count is told by 10, not by 13
not_13 : (test : Bool) (w : Refusal) → first test refusal.Size None ≡ Some w → notice w ≡ (13, []) → ⊥
not_13 true w due is = let size : notice refusal.Size ≡ notice w = cc in let z : ◌≡◌ {A = ℕ} 10 13 = ap (λ (n : ℕ × List ℕ). n.0) (size ∙ is) in omega arith
not_13 false w due is = let z : ◌≡◌ {A = ℕ} 0 1 = cc in omega arith

module _ (sizes : Sizes) (heading : Heading) (tables : Tables) (sound : Sound sizes heading tables) (lent : Lent) where
  -- where enough is lent, no refusal for a table's size is due
  enough_lent : Enough sizes (drawn heading tables) lent → submit_fault heading (lent_tables lent tables) ≡ None
  enough_lent enough =
      let intervals = not_short tables.intervals sizes.intervals heading.intervals sound.intervals lent.intervals enough.intervals in
      let gradients = not_short tables.gradients sizes.gradients heading.gradients sound.gradients lent.gradients enough.gradients in
      let restrictions = not_short tables.restrictions sizes.restrictions heading.restrictions sound.restrictions lent.restrictions enough.restrictions in
      let marks = not_short tables.marks sizes.marks heading.marks sound.marks lent.marks enough.marks in
      let row : row_short (take lent.row tables.row) ≡ false =
      le-ltb (length (take lent.row tables.row)) row_table_size (omega (arith, length-take lent.row tables.row, enough.row, sound.row)) in
      grind (arith, nat_tests)

module _ (E : Emergencies) (D : Services) (distances : Distances E D) (laws : Laws E D) (sizes : Sizes) (rows : List WorkedRow) (sought : ℕ) where
  right_not_taken : (h : History) (lent : Lent) (order : Order) → Right E D sizes h (record { lent = lent; order = order }) not_taken
  right_not_taken h lent (submit mark approach row) = λ has enough. inr refl
  right_not_taken h lent _ = tt

  module _ (s : Sheet) (follows : Follows E D distances laws sizes rows sought s) (lent : Lent) where
    right_refused : (order : Order) (w : Refusal) → fault s (record { lent = lent; order = order }) ≡ Some w
        → Right E D sizes (history_on s rows sought) (record { lent = lent; order = order }) (refusing order (notice w))
    right_refused (work_out mark approach bytes) w due = λ is. absurd (not_13 (lent_short s.heading (lent_tables lent s.tables)) w due is)
    right_refused (submit mark approach row) w due =
        λ has enough. absurd (let clash : Some w ≡ None = sym due ∙ enough_lent sizes s.heading s.tables follows.sound lent enough in let z : ◌≡◌ {A = ℕ} 0 1 = cc in omega arith)
    right_refused _ w due = tt

  module _ (s : Sheet) (follows : Follows E D distances laws sizes rows sought s) (call : Call) where
    abbrev Keeps : Outcome → Sheet → Type 0
    Keeps = Kept E D distances laws sizes rows sought s call

    -- what is not accepted changes nothing
    pub kept_unchanged : (o : Outcome) (t : Sheet) → accepted o ≡ false → t ≡ s → Right E D sizes (history_on s rows sought) call o → Keeps o t
    kept_unchanged o t denied same right = subst (Keeps o) (sym same) (record {
      right = right;
      drawing = ap (λ b. cond b (entered (drawn s.heading s.tables) call.order) (drawn s.heading s.tables)) denied;
      follows =
          subst (λ n. Follows E D distances laws sizes (rows_after rows call.order o) n s) (sym (sought_same sought call.order o denied))
          (subst (λ xs. Follows E D distances laws sizes xs sought s) (sym (rows_same rows call.order o denied)) follows);
    })

    pub kept_not_taken : (o : Outcome) (t : Sheet) → o ≡ not_taken → t ≡ s → Keeps o t
    kept_not_taken o t told same =
        subst (λ p. Keeps p t) (sym told) (kept_unchanged not_taken t refl same (right_not_taken (history_on s rows sought) call.lent call.order))

    pub kept_refused : (w : Refusal) → fault s call ≡ Some w → (o : Outcome) (t : Sheet) → o ≡ refusing call.order (notice w) → t ≡ s → Keeps o t
    kept_refused w due o t told same =
        subst (λ p. Keeps p t) (sym told)
        (kept_unchanged (refusing call.order (notice w)) t (not_accepted call.order (notice w)) same (right_refused s follows call.lent call.order w due))

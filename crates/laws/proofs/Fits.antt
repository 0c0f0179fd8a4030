-- The test of a table is passed by the tables of books alone. Assumes nothing.
use Rattle.std.proofs.Common.{◌≡◌, ℕ, zero, suc, Bool, true, false, cond, ◌&&◌, eqb, leb, List, [], ◌∷◌, length, Ok, Err, Decides, Result, sym, refl, ap, subst, arith, eq-eqb, eqb-true, le-leb, leb-true}
use Rattle.std.specs.List.{list_all}
use Rattle.std.proofs.lemmas.Bool.{and_parts, and_from}
use Rattle.std.proofs.lemmas.Bool.Decides.{Decides-eqb, not_from_Decides}
use Rattle.codes.specs.declared.refusals.Refusal.{Refusal}
use Rattle.codes.specs.Refusals.{notice, Told, gives, refuses, told}
use Rattle.laws.specs.Books.{Metres}
use Rattle.laws.specs.Questions.{emergency_of, service_of}
use Rattle.laws.specs.Order.{in_order}
use Rattle.laws.specs.Judged.{Ranged, Keeps, metres, judged, fits, Book, Unfit, size, entry, order, Judged}
use Rattle.laws.proofs.Neighbours.{laws_from_order, order_from_laws, order_decides}

ranged_from_each : (xs : List ℕ) → list_all metres xs ≡ true → Ranged xs
ranged_from_each [] passes i l = absurd (omega arith)
ranged_from_each (x ∷ xs) passes zero l =
    let here = and_parts (leb 1 x) (leb x 4095) (and_parts (metres x) (list_all metres xs) passes).0 in
    (leb-true 1 x here.0, leb-true x 4095 here.1)
ranged_from_each (x ∷ xs) passes (suc i) l = ranged_from_each xs (and_parts (metres x) (list_all metres xs) passes).1 i (omega arith)

each_from_ranged : (xs : List ℕ) → Ranged xs → list_all metres xs ≡ true
each_from_ranged [] ranged = refl
each_from_ranged (x ∷ xs) ranged =
    let here : Metres x = ranged 0 (omega arith) in
    and_from (metres x) (list_all metres xs) (and_from (leb 1 x) (leb x 4095) (le-leb 1 x here.0) (le-leb x 4095 here.1))
    (each_from_ranged xs (λ i l. ranged (suc i) (omega arith)))

module _ (xs : List ℕ) where
  pub book_from_fits : fits xs ≡ true → Book xs
  book_from_fits passes =
      let parts = and_parts (eqb (length xs) 594 && list_all metres xs) (in_order (emergency_of xs) (service_of xs)) passes in
      let front = and_parts (eqb (length xs) 594) (list_all metres xs) parts.0 in
      record { whole = eqb-true _ _ front.0; ranged = ranged_from_each xs front.1; keeps = laws_from_order (emergency_of xs) (service_of xs) parts.1 }

  pub fits_from_book : Book xs → fits xs ≡ true
  fits_from_book book =
      and_from (eqb (length xs) 594 && list_all metres xs) (in_order (emergency_of xs) (service_of xs))
      (and_from (eqb (length xs) 594) (list_all metres xs) (eq-eqb _ _ book.whole) (each_from_ranged xs book.ranged))
      (order_from_laws (emergency_of xs) (service_of xs) book.keeps)

-- ---- the first test that fails tells why a table is no book

given_not_refused : (p : ℕ × List ℕ) → ◌≡◌ {A = Told (Unit {0})} (gives tt) (refuses p) → ⊥
given_not_refused p e = let z : ◌≡◌ {A = ℕ} 0 1 = cc in omega arith

refusal_number : (p q : ℕ × List ℕ) → ◌≡◌ {A = Told (Unit {0})} (refuses p) (refuses q) → p.0 ≡ q.0
refusal_number p q e = let same : p ≡ q = cc in ap (λ (x : ℕ × List ℕ). x.0) same

judged_by : (xs : List ℕ) (whole ranged kept : Bool) → Decides whole (length xs ≡ 594) → Decides ranged (Ranged xs) → Decides kept (Keeps xs) → (r : Result (Unit {0}) Refusal) → told r ≡ cond whole (cond ranged (cond kept (gives tt) (refuses (20, []))) (refuses (17, []))) (refuses (10, [])) → Judged xs r
judged_by xs false b d w g k (Ok u) e = absurd (given_not_refused _ e)
judged_by xs false b d w g k (Err why) e = subst (Unfit xs) (sym (refusal_number (notice why) (10, []) e)) (size (not_from_Decides false w refl))
judged_by xs true false d w g k (Ok u) e = absurd (given_not_refused _ e)
judged_by xs true false d w g k (Err why) e = subst (Unfit xs) (sym (refusal_number (notice why) (17, []) e)) (entry (w.0 refl) (not_from_Decides false g refl))
judged_by xs true true false w g k (Ok u) e = absurd (given_not_refused _ e)
judged_by xs true true false w g k (Err why) e =
    subst (Unfit xs) (sym (refusal_number (notice why) (20, []) e)) (order (w.0 refl) (g.0 refl) (not_from_Decides false k refl))
judged_by xs true true true w g k (Ok u) e = record { whole = w.0 refl; ranged = g.0 refl; keeps = k.0 refl }
judged_by xs true true true w g k (Err why) e = absurd (given_not_refused _ (sym e))

pub judged_from_told : (xs : List ℕ) (r : Result (Unit {0}) Refusal) → told r ≡ judged xs → Judged xs r
judged_from_told xs =
    judged_by xs (eqb (length xs) 594) (list_all metres xs) (in_order (emergency_of xs) (service_of xs))
    (Decides-eqb (length xs) 594) (ranged_from_each xs, each_from_ranged xs) (order_decides (emergency_of xs) (service_of xs))

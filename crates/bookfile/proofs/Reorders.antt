-- The order of records and the remarks make no difference to the book. Assumes nothing.
use Rattle.std.proofs.Common.{◌≡◌, ℕ, ◌+◌, ◌≤◌, Bool, true, false, cond, List, [], ◌∷◌, length, Ok, Err, sum_by, Result, sym, refl, ap, ◌∙◌, zero-add, arith}
use Rattle.std.specs.List.Sorted.{IsPermutation}
use Rattle.std.proofs.lemmas.List.Sorted.{sum_by-IsPermutation}
use Rattle.std.proofs.lemmas.List.Sums.{sum_by-cons}
use Rattle.laws.specs.Books.{Emergencies, Services}
use Rattle.laws.specs.Questions.{Question, figure, emergency_of, service_of}
use Rattle.bookrecords.specs.Records.{Said, states, remarks}
use Rattle.bookrecords.specs.Files.{same, given, Means}
use Rattle.bookrecords.proofs.Unique.{same_records}
use Rattle.bookfile.specs.declared.faults.Fault.{Fault}
use Rattle.bookfile.specs.Faults.{Read}
use Rattle.bookfile.specs.Shuffles.{figures, Reordered, Orderless}

-- how often a question is answered, and its metres added up
abbrev counted : Question → Question × ℕ → ℕ
counted q stated = cond (same q stated.0) 1 0

abbrev added : Question → Question × ℕ → ℕ
added q stated = cond (same q stated.0) stated.1 0

abbrev total : List ℕ → ℕ
total [] = 0
total (x ∷ xs) = x + total xs

chosen_length : (b : Bool) (m : ℕ) (xs : List ℕ) → length (cond b (m ∷ xs) xs) ≡ cond b 1 0 + length xs
chosen_length true m xs = omega arith
chosen_length false m xs = sym (zero-add (length xs))

chosen_total : (b : Bool) (m : ℕ) (xs : List ℕ) → total (cond b (m ∷ xs) xs) ≡ cond b m 0 + total xs
chosen_total true m xs = refl
chosen_total false m xs = sym (zero-add (total xs))

given_count : (q : Question) (rs : List Said) → length (given q rs) ≡ sum_by (counted q) (figures rs)
unfolding given figures
given_count q [] = refl
given_count q (states p m ∷ rs) =
    chosen_length (same q p) m (given q rs) ∙ ap (λ n. cond (same q p) 1 0 + n) (given_count q rs) ∙ sym (sum_by-cons (counted q) (p, m) (figures rs))
given_count q (remarks bytes ∷ rs) = given_count q rs

given_total : (q : Question) (rs : List Said) → total (given q rs) ≡ sum_by (added q) (figures rs)
unfolding given figures
given_total q [] = refl
given_total q (states p m ∷ rs) =
    chosen_total (same q p) m (given q rs) ∙ ap (λ n. cond (same q p) m 0 + n) (given_total q rs) ∙ sym (sum_by-cons (added q) (p, m) (figures rs))
given_total q (remarks bytes ∷ rs) = given_total q rs

-- one figure alone
alone : (xs : List ℕ) (m : ℕ) → length xs ≡ 1 → total xs ≡ m → xs ≡ m ∷ []
alone [] m one e = absurd (omega arith)
alone (x ∷ []) m one e = let here : x ≡ m = omega arith in ap (λ n. n ∷ []) here
alone (x ∷ y ∷ xs) m one e = absurd (omega arith)

once_shuffled : (rs ss : List Said) → IsPermutation (figures rs) (figures ss) → (q : Question) (m : ℕ) → given q rs ≡ m ∷ [] → given q ss ≡ m ∷ []
once_shuffled rs ss shuffled q m e =
    alone (given q ss) m
    (given_count q ss ∙ sum_by-IsPermutation (counted q) (figures rs) (figures ss) shuffled ∙ sym (given_count q rs) ∙ ap length e)
    (given_total q ss ∙ sum_by-IsPermutation (added q) (figures rs) (figures ss) shuffled ∙ sym (given_total q rs) ∙ ap total e ∙ (let z : m + 0 ≡ m = omega arith in z))

means_reordered : (file file' : List ℕ) (E : Emergencies) (D : Services) → Means file E D → length file' ≤ 32768 → Reordered file file' → Means file' E D
means_reordered file file' E D means short reordered =
    let records = same_records means.records reordered.records means.possible reordered.possible (sym means.spelt ∙ reordered.spelt) in
    record {
      short = short;
      records = reordered.records';
      spelt = reordered.spelt';
      possible = reordered.possible';
      once = λ q asks.
          once_shuffled reordered.records reordered.records' reordered.shuffled q (figure E D q) (ap (given q) records ∙ means.once q asks);
      laws = means.laws;
    }

pub orderless_from_read : (file before : List ℕ) (r : Result (Unit {0}) Fault) (after : List ℕ) → Read file before r after → Orderless file r after
orderless_from_read file before (Ok done) after accepted =
    λ file' short reordered. means_reordered file file' (emergency_of after) (service_of after) accepted.means short reordered
orderless_from_read file before (Err fault) after refused = tt

-- The file of a book means that book. Assumes nothing.
use Rattle.std.proofs.Common.{◌≡◌, ℕ, zero, suc, ◌+◌, ◌<◌, ◌≤◌, List, [], ◌∷◌, map, length, get_or, refl, ap, ◌∙◌, arith, eq-eqb, ne_eqb}
use Rattle.std.specs.List.{flat_map, AllByRecursion}
use Rattle.std.proofs.ByRecursion.{All-map, All-from_get_or}
use Rattle.std.proofs.lemmas.Bool.{cond-true, cond-false}
use Rattle.codes.specs.declared.speeds.Speed.TheVariants.{V30}
use Rattle.codes.specs.declared.gradients.Class.TheVariants.{C1}
use Rattle.codes.specs.Gradients.{classes}
use Rattle.laws.specs.Books.{Emergencies, Services, Metres, Distances, Laws}
use Rattle.laws.specs.Questions.{Question, emergency, service, Asks, figure, place, questions}
use Rattle.laws.proofs.Places.{place_within, question_at, questions_at, questions_count}
use Rattle.bookrecords.specs.Records.{spelling, Possible}
use Rattle.bookrecords.specs.Files.{same, given, Means}
use Rattle.bookrecords.proofs.Unique.{same_book}
use Rattle.bookwriter.specs.Writing.{stated, bytes_of, file_of, asked, row, emergencies_of, services_of, of_class, Alone}

pub in_writing_order : flat_map of_class classes ≡ questions
unfolding questions asked row emergencies_of services_of
in_writing_order = refl

-- ---- each question is stated once

module _ (E : Emergencies) (D : Services) where
  pub file_size : length (file_of E D) ≡ 5247
  unfolding bytes_of spelling questions
  file_size = refl

  pub classes_size : length (bytes_of E D (flat_map of_class classes)) ≡ 5247
  classes_size = ap (λ qs. length (bytes_of E D qs)) in_writing_order ∙ file_size

  -- questions whose places count up from n state those alone, and each once
  module _ (q : Question) where
    given_none : (qs : List Question) (n : ℕ) → ((i : ℕ) → i < length qs → place (get_or qs i q) ≡ n + i) → place q < n → given q (map (stated E D) qs) ≡ []
    unfolding given
    given_none [] n places l = refl
    given_none (p ∷ ps) n places l =
        let here = places 0 (omega arith) in
        cond-false (same q p) _ _ (ne_eqb (place q) (place p) (λ e. omega arith))
        ∙ given_none ps (suc n) (λ i m. let there = places (suc i) (omega arith) in omega arith) (omega arith)

    given_once : (qs : List Question) (n : ℕ) → ((i : ℕ) → i < length qs → place (get_or qs i q) ≡ n + i) → (k : ℕ) → k < length qs → place q ≡ n + k → given q (map (stated E D) qs) ≡ figure E D (get_or qs k q) ∷ []
    unfolding given
    given_once [] n places k l e = absurd (omega arith)
    given_once (p ∷ ps) n places zero l e =
        let here = places 0 (omega arith) in
        cond-true (same q p) _ _ (eq-eqb (place q) (place p) (omega arith))
        ∙ ap (λ ms. figure E D p ∷ ms) (given_none ps (suc n) (λ i m. let there = places (suc i) (omega arith) in omega arith) (omega arith))
    given_once (p ∷ ps) n places (suc k) l e =
        let here = places 0 (omega arith) in
        cond-false (same q p) _ _ (ne_eqb (place q) (place p) (λ level. omega arith))
        ∙ given_once ps (suc n) (λ i m. let there = places (suc i) (omega arith) in omega arith) k (omega arith) (omega arith)

    stated_once : Asks q → given q (map (stated E D) questions) ≡ figure E D q ∷ []
    stated_once asks =
        let count = questions_count in
        let within = place_within q asks in
        given_once questions 0 (λ i l. let there = (question_at i q (omega arith)).1 in omega arith) (place q) (omega arith) (omega arith)
        ∙ ap (λ p. figure E D p ∷ []) (questions_at q asks)

  -- ---- the file means the book

  module _ (distances : Distances E D) (laws : Laws E D) where
    figure_metres : (q : Question) → Asks q → Metres (figure E D q)
    figure_metres (emergency k from to) asks = distances.emergency k from to asks
    figure_metres (service k from) asks = distances.service k from

    stated_possible : AllByRecursion Possible (map (stated E D) questions)
    stated_possible =
        All-map Possible (stated E D) questions
        (All-from_get_or (λ q. Possible (stated E D q)) questions (service C1 V30) (λ i l.
        let asks = (question_at i (service C1 V30) (let count = questions_count in omega arith)).0 in
        (asks, figure_metres (get_or questions i (service C1 V30)) asks)))

    pub file_means : Means (file_of E D) E D
    unfolding bytes_of
    file_means = record {
      short = let size = file_size in omega arith;
      records = map (stated E D) questions;
      spelt = refl;
      possible = stated_possible;
      once = stated_once;
      laws = laws;
    }

    pub file_alone : Alone (file_of E D) E D
    file_alone E' D' other q asks = same_book (file_of E D) E E' D D' file_means other q asks

-- Of the refusals of working out and of examining one at most is due, and none where a row was worked out. Assumes nothing.
--     First P a Q n     n is a where P holds, and else Q holds of it
--     One Q             Q holds of one value at most
--     Sized             a row is asked for in order and has the size
use Rattle.std.proofs.Common.{◌≡◌, ℕ, ◌⊎◌, List, [], ◌∷◌, length, None, sym, refl, ap, ◌∙◌, inl, inr}
use Rattle.std.proofs.lemmas.List.{length-map}
use Rattle.codes.specs.declared.speeds.Speed.{Speed}
use Rattle.codes.specs.Speeds.{speed_of}
use Rattle.laws.specs.Books.{Emergencies, Services}
use Rattle.rules.specs.Rules.{Rule, rule_number, Lawful}
use Rattle.rules.specs.Rows.{Breaks}
use Rattle.rows.specs.declared.targets.Target.{Target}
use Rattle.rows.specs.declared.letters.StopLetter.{StopLetter}
use Rattle.rows.specs.Drawings.{Drawing, track_drawn}
use Rattle.rows.specs.Targets.{mark_of, Absent}
use Rattle.rows.specs.Asking.{Asked, Unasked, absent, slow, missized}
use Rattle.rows.specs.Passing.{read_code, codes_of}
use Rattle.rows.specs.WorkingOut.{Spells, Worked, Unworked}
use Rattle.rows.specs.Examining.{Failed}
use Rattle.rows.proofs.Verdicts.{not_absent_from_located, not_slow, same_asked, not_unasked_from_asked}
use Rattle.rows.proofs.Single.{breaks_same}

abbrev First : {N : Type 0} → Type 0 → N → (N → Type 0) → N → Type 0
First P a Q n = (P × (n ≡ a)) ⊎ ((P → ⊥) × Q n)

abbrev One : {N : Type 0} → (N → Type 0) → Type 0
One Q = (n m : _) → Q n → Q m → n ≡ m

first_one : {N : Type 0} (P : Type 0) (a : N) (Q : N → Type 0) → One Q → One (First P a Q)
first_one P a Q one n m (inl (p, e)) (inl (p', e')) = e ∙ sym e'
first_one P a Q one n m (inl (p, e)) (inr (not-p, q)) = absurd (not-p p)
first_one P a Q one n m (inr (not-p, q)) (inl (p, e)) = absurd (not-p p)
first_one P a Q one n m (inr (not-p, q)) (inr (not-p', q')) = one n m q q'

-- where two kinds of value exclude one another, of both together there is one at most
either_one : {N : Type 0} (P Q : N → Type 0) → One P → One Q → ((n m : N) → P n → Q m → ⊥) → One (λ n. P n ⊎ Q n)
either_one P Q one other apart n m (inl p) (inl p') = one n m p p'
either_one P Q one other apart n m (inl p) (inr q) = absurd (apart n m p q)
either_one P Q one other apart n m (inr q) (inl p) = absurd (apart m n p q)
either_one P Q one other apart n m (inr q) (inr q') = other n m q q'

-- a refusal's number and values
abbrev Notice : Type 0
Notice = ℕ × List ℕ

module _ (drawing : Drawing) (number approach : ℕ) where
  module _ (bytes : List ℕ) where
    abbrev ByAsking : Notice → Type 0
    ByAsking = Unasked drawing number approach (length bytes)

    unasked_due : (n : Notice) → ByAsking n → First (Absent drawing number) (8, []) (First (speed_of approach ≡ None) (4, []) (λ m. m ≡ (10, []))) n
    unasked_due _ (absent none) = inl (none, refl)
    unasked_due _ (slow t located none) = inr (not_absent_from_located drawing number t located, inl (none, refl))
    unasked_due _ (missized t v asked apart) = inr (not_absent_from_located drawing number t asked.located, inr (not_slow approach v asked.approaches, refl))

    unasked_one : One ByAsking
    unasked_one n m one other =
        first_one (Absent drawing number) (8, []) (First (speed_of approach ≡ None) (4, []) (λ m. m ≡ (10, [])))
        (first_one (speed_of approach ≡ None) (4, []) (λ m. m ≡ (10, [])) (λ n m e f. e ∙ sym f)) n m (unasked_due n one) (unasked_due m other)

    record Sized : Type 0 where
      target : Target
      speed : Speed
      asked : Asked drawing number approach target speed
      size : length bytes ≡ target.held.interval

    -- behind the refusals by what is asked for
    module _ (Behind : Notice → Type 0) where
      abbrev Refusals : Notice → Type 0
      Refusals n = ByAsking n ⊎ (Sized × Behind n)

      refusals_one : One Behind → One Refusals
      refusals_one one = either_one ByAsking (λ n. Sized × Behind n) unasked_one (λ n m p q. one n m p.1 q.1)
          (λ n m due behind. not_unasked_from_asked drawing number approach (length bytes) behind.0.target behind.0.speed behind.0.asked behind.0.size n due)

    module _ (E : Emergencies) (D : Services) where
      abbrev NoRow : Notice → Type 0
      NoRow n = n ≡ (13, [])

      unworked_refusals : (n : Notice) → Unworked drawing number approach E D bytes n → Refusals NoRow n
      unworked_refusals _ (Unworked.unasked n due) = inl due
      unworked_refusals _ (Unworked.none t v asked sized none) = inr (record { target = t; speed = v; asked = asked; size = sized }, refl)

      pub unworked_same : One (Unworked drawing number approach E D bytes)
      unworked_same n m one other = refusals_one NoRow (λ n m e f. e ∙ sym f) n m (unworked_refusals n one) (unworked_refusals m other)

      -- 12 for the first break
      record Unlawful (n : Notice) : Type 0 where
        target : Target
        speed : Speed
        asked : Asked drawing number approach target speed
        j : ℕ
        rule : Rule
        breaks : Breaks (track_drawn drawing) (mark_of target) E D speed (codes_of bytes) j rule
        tells : n ≡ (12, j ∷ rule_number rule ∷ [])

      unlawful_one : One Unlawful
      unlawful_one n m one other =
          let breaks = same_asked drawing number approach (λ t v. Breaks (track_drawn drawing) (mark_of t) E D v (codes_of bytes) one.j one.rule) one.asked other.asked one.breaks in
          let (place, rule) = breaks_same (track_drawn drawing) (mark_of other.target) E D other.speed (codes_of bytes) one.j other.j one.rule other.rule breaks other.breaks in
          one.tells ∙ ap (λ i. (12, i ∷ rule_number one.rule ∷ [])) place ∙ ap (λ r. (12, other.j ∷ r ∷ [])) rule ∙ sym other.tells

      -- 11 for a byte that is no code, and then 12
      abbrev Examines : Notice → Type 0
      Examines = First (Spells 0 bytes → ⊥) (11, []) Unlawful

      failed_refusals : (n : Notice) → Failed drawing number approach E D bytes n → Refusals Examines n
      failed_refusals _ (Failed.unasked n due) = inl due
      failed_refusals _ (Failed.strange t v asked sized other) = inr (record { target = t; speed = v; asked = asked; size = sized }, inl (other, refl))
      failed_refusals _ (Failed.unlawful t v asked sized spelt j rule breaks) = inr (
        record { target = t; speed = v; asked = asked; size = sized },
        inr ((λ other. other spelt), record { target = t; speed = v; asked = asked; j = j; rule = rule; breaks = breaks; tells = refl }),
      )

      pub failed_same : One (Failed drawing number approach E D bytes)
      failed_same n m one other = refusals_one Examines (first_one _ _ _ unlawful_one) n m (failed_refusals n one) (failed_refusals m other)

  -- a row was worked out, and written over all the bytes
  module _ (E : Emergencies) (D : Services) (row bytes : List ℕ) (letter : StopLetter) (place : ℕ) (long : length row ≡ length bytes) (worked : Worked drawing number approach E D row letter place) where
    pub not_unworked_from_worked : (why : ℕ × List ℕ) → Unworked drawing number approach E D bytes why → ⊥
    not_unworked_from_worked _ (Unworked.unasked why due) =
        not_unasked_from_asked drawing number approach (length bytes) worked.target worked.speed worked.asked (sym long ∙ sym (length-map row read_code) ∙ worked.highest.lawful.size) why due
    not_unworked_from_worked _ (Unworked.none t v asked sized none) =
        none (codes_of row) (same_asked drawing number approach (λ t v. Lawful (track_drawn drawing) (mark_of t) E D v (codes_of row)) worked.asked asked worked.highest.lawful)

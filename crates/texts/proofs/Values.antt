-- The number that digits write, place by place. Assumes nothing.
use Rattle.std.proofs.Common.{◌≡◌, ℕ, ◌+◌, ◌-◌, ◌*◌, ◌<◌, ◌≤◌, Bool, true, false, cond, ◌&&◌, List, [], ◌∷◌, length, get_or, drop, Some, None, Option, refl, ap, ◌∙◌, arith}
use Rattle.std.specs.Char.{is_ascii_digit, digit_value}
use Rattle.std.specs.Str.{all_ascii_digits}
use Rattle.std.specs.Str.Parse.{digits_value_after}
use Rattle.std.proofs.lemmas.List.{at_drop_more, at_drop_all}
use Rattle.std.proofs.lemmas.Bool.{le-leb, lt-leb}
use Rattle.std.proofs.lemmas.Str.Parse.{tells_all_ascii_digits}
use Rattle.std.proofs.lemmas.Str.{digit_value_digit}
use Rattle.texts.specs.Numbers.{numeral, held, upto}

-- the number that the digits bs write behind the number n
unfoldable pub digits_after : ℕ → List ℕ → Option ℕ
digits_after n [] = Some n
digits_after n (b ∷ bs) = cond (is_ascii_digit b) (digits_after (10 * n + (b - 48)) bs) None

digits_cons : (n b : ℕ) (bs : List ℕ) → digits_after n (b ∷ bs) ≡ cond (is_ascii_digit b) (digits_after (10 * n + (b - 48)) bs) None
unfolding digits_after
digits_cons n b bs = refl

digits_nil : (n : ℕ) → digits_after n [] ≡ Some n
unfolding digits_after
digits_nil n = refl

-- where all are digits, that is their value
valued : (n : ℕ) (bs : List ℕ) → cond (all_ascii_digits bs) (Some (digits_value_after 10 n bs)) None ≡ digits_after n bs
unfolding digits_after
valued n [] = refl
valued n (b ∷ bs) = go (is_ascii_digit b) refl (valued (10 * n + (b - 48)) bs)
  where
    go : (t : Bool) → is_ascii_digit b ≡ t → cond (all_ascii_digits bs) (Some (digits_value_after 10 (10 * n + (b - 48)) bs)) None ≡ digits_after (10 * n + (b - 48)) bs
        → cond (t && all_ascii_digits bs) (Some (digits_value_after 10 (n * 10 + digit_value b) bs)) None ≡ cond t (digits_after (10 * n + (b - 48)) bs) None
    go true e h =
        let within = (tells_all_ascii_digits.parts b [] (ap (λ t. t && true) e)).0 in
        let same : n * 10 + digit_value b ≡ 10 * n + (b - 48) = omega (arith, digit_value_digit b within) in
        ap (λ k. cond (all_ascii_digits bs) (Some (digits_value_after 10 k bs)) None) same ∙ h
    go false e h = refl

-- more digits make a number no lower
pub held_above : (limit n : ℕ) (bs : List ℕ) → limit < n → held limit (digits_after n bs) ≡ None
unfolding digits_after
held_above limit n [] h = ap (λ t. cond t (Some n) None) (lt-leb n limit h)
held_above limit n (b ∷ bs) h = go (is_ascii_digit b) (held_above limit (10 * n + (b - 48)) bs (omega arith))
  where
    go : (t : Bool) → held limit (digits_after (10 * n + (b - 48)) bs) ≡ None → held limit (cond t (digits_after (10 * n + (b - 48)) bs) None) ≡ None
    go true e = e
    go false e = refl

pub upto_none : (limit : ℕ) (w : List ℕ) → length w ≡ 0 → upto limit w ≡ None
unfolding numeral
upto_none limit [] h = refl
upto_none limit (b ∷ w) h = absurd (omega arith)

pub upto_digits : (limit : ℕ) (w : List ℕ) → 0 < length w → upto limit w ≡ held limit (digits_after 0 w)
unfolding numeral
upto_digits limit [] h = absurd (omega arith)
upto_digits limit (b ∷ w) h = ap (held limit) (valued 0 (b ∷ w))

pub digits_more : (n : ℕ) (w : List ℕ) (i : ℕ) → i < length w → is_ascii_digit (get_or w i 0) ≡ true → digits_after n (drop i w) ≡ digits_after (10 * n + (get_or w i 0 - 48)) (drop (i + 1) w)
digits_more n w i h e = at_drop_more (digits_after n) w i 0 h ∙ digits_cons n _ _ ∙ ap (λ t. cond t (digits_after (10 * n + (get_or w i 0 - 48)) (drop (i + 1) w)) None) e

pub digits_stop : (n : ℕ) (w : List ℕ) (i : ℕ) → i < length w → is_ascii_digit (get_or w i 0) ≡ false → digits_after n (drop i w) ≡ None
digits_stop n w i h e = at_drop_more (digits_after n) w i 0 h ∙ digits_cons n _ _ ∙ ap (λ t. cond t (digits_after (10 * n + (get_or w i 0 - 48)) (drop (i + 1) w)) None) e

pub digits_all : (n : ℕ) (w : List ℕ) (i : ℕ) → length w ≤ i → digits_after n (drop i w) ≡ Some n
digits_all n w i h = at_drop_all (digits_after n) w i h ∙ digits_nil n

pub held_within : (limit n : ℕ) → n ≤ limit → held limit (Some n) ≡ Some n
held_within limit n h = ap (λ t. cond t (Some n) None) (le-leb n limit h)

-- what a word's digits come to, place by place
pub ruleset digits = (upto_none, upto_digits, digits_more, digits_stop, digits_all, held_above, held_within)

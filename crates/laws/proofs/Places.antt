-- Each question has a place of its own in the writing order. Assumes nothing.
use Rattle.std.proofs.Common.{◌≡◌, ℕ, zero, suc, ◌+◌, ◌-◌, ◌*◌, ◌<◌, ◌≤◌, Bool, true, ◌&&◌, eqb, ltb, List, [], ◌∷◌, length, get_or, refl, ap, ◌∙◌, inl, inr, arith, ltb-true, eqb-true}
use Rattle.std.proofs.lemmas.List.{get_or-map, length-map}
use Rattle.std.proofs.lemmas.Bool.{and_parts, cases_order}
use Rattle.codes.specs.declared.speeds.Speed.{Speed}
use Rattle.codes.specs.declared.speeds.Code.{Code}
use Rattle.codes.specs.declared.gradients.Class.{Class}
use Rattle.codes.specs.Speeds.{kmh, byte}
use Rattle.codes.specs.Gradients.{number}
use Rattle.laws.specs.Books.{Emergencies, Services}
use Rattle.laws.specs.Questions.{Question, emergency, service, Asks, figure, column, rank, before, place, questions, written}
use Rattle.laws.proofs.Neighbours.{same_speed, same_code, same_class}

number_within : (k : Class) → (1 ≤ number k) × (number k ≤ 11)
number_within k = grind arith

column_within : (v : Speed) → column v ≤ 8
column_within v = grind arith

before_within : (v : Speed) → before v + column v ≤ 44
before_within v = grind arith

rank_below : (c : Code) (v : Speed) → byte c < kmh v → rank c ≤ column v
rank_below c v l = grind arith

-- the figures from a higher speed stand after those from a lower one
before_apart : (v w : Speed) → column v < column w → before v + column v < before w
before_apart v w l = grind arith

-- the place within a class
abbrev inner : Question → ℕ
inner (emergency k from to) = before from + rank to
inner (service k from) = 45 + column from

inner_within : (q : Question) → Asks q → inner q < 54
inner_within (emergency k from to) l = let a = before_within from in let b = rank_below to from l in omega arith
inner_within (service k from) u = let a = column_within from in omega arith

abbrev class_asked : Question → Class
class_asked (emergency k from to) = k
class_asked (service k from) = k

place_is : (q : Question) → place q ≡ 54 * (number (class_asked q) - 1) + inner q
place_is (emergency k from to) = omega arith
place_is (service k from) = omega arith

pub place_within : (q : Question) → Asks q → place q < 594
place_within q asks =
    let a = place_is q in let b = number_within (class_asked q) in let c = inner_within q asks in omega arith

-- one place has one question
same_row : (v w : Speed) (a b : Code) → byte a < kmh v → byte b < kmh w → before v + rank a ≡ before w + rank b → v ≡ w
same_row v w a b l m e =
    let x = rank_below a v l in let y = rank_below b w m in
    elim (cases_order (column v) (column w)) [
      | inl level ↦ same_speed v w level
      | inr apart ↦ elim apart [
        | inl under ↦ absurd (let z = before_apart v w under in omega arith)
        | inr over ↦ absurd (let z = before_apart w v over in omega arith)
      ]
    ]

same_inner : (p q : Question) → Asks p → Asks q → class_asked p ≡ class_asked q → inner p ≡ inner q → p ≡ q
same_inner (emergency k v a) (emergency j w b) l m c e =
    let row = same_row v w a b l m e in
    let start = ap before row in
    let code : a ≡ b = same_code a b (omega arith) in
    cc
same_inner (emergency k v a) (service j w) l m c e = absurd (let x = before_within v in let y = rank_below a v l in omega arith)
same_inner (service k v) (emergency j w b) l m c e = absurd (let x = before_within w in let y = rank_below b w m in omega arith)
same_inner (service k v) (service j w) l m c e = let speed : v ≡ w = same_speed v w (omega arith) in cc

pub place_apart : (p q : Question) → Asks p → Asks q → place p ≡ place q → p ≡ q
place_apart p q a b e =
    let x = place_is p in let y = place_is q in
    let within-p = inner_within p a in let within-q = inner_within q b in
    let class-p = number_within (class_asked p) in let class-q = number_within (class_asked q) in
    let class : class_asked p ≡ class_asked q = same_class (class_asked p) (class_asked q) (omega arith) in
    let numbers = ap number class in
    same_inner p q a b class (omega arith)

-- ---- the questions in writing order, computed

abbrev asks : Question → Bool
asks (emergency k from to) = ltb (byte to) (kmh from)
asks (service k from) = true

asked : (q : Question) → asks q ≡ true → Asks q
asked (emergency k from to) e = ltb-true _ _ e
asked (service k from) e = tt

-- each question of a list can be asked, and stands at its place from n on
abbrev placed : ℕ → List Question → Bool
placed n [] = true
placed n (q ∷ qs) = asks q && eqb (place q) n && placed (suc n) qs

placed_at : (qs : List Question) (n : ℕ) → placed n qs ≡ true → (i : ℕ) (d : Question) → i < length qs → Asks (get_or qs i d) × (place (get_or qs i d) ≡ n + i)
placed_at [] n passes i d l = absurd (omega arith)
placed_at (q ∷ qs) n passes zero d l =
    let parts = and_parts (asks q) (eqb (place q) n) (and_parts (asks q && eqb (place q) n) (placed (suc n) qs) passes).0 in
    (asked q parts.0, let e = eqb-true (place q) n parts.1 in omega arith)
placed_at (q ∷ qs) n passes (suc i) d l =
    let rest = placed_at qs (suc n) (and_parts (asks q && eqb (place q) n) (placed (suc n) qs) passes).1 i d (omega arith) in
    (rest.0, let e = rest.1 in omega arith)

pub questions_count : length questions ≡ 594
unfolding questions
questions_count = refl

questions_placed : placed 0 questions ≡ true
unfolding questions
questions_placed = refl

pub question_at : (i : ℕ) (d : Question) → i < 594 → Asks (get_or questions i d) × (place (get_or questions i d) ≡ i)
question_at i d l =
    let there = placed_at questions 0 questions_placed i d (let n = questions_count in omega arith) in
    (there.0, let e = there.1 in omega arith)

pub questions_at : (q : Question) → Asks q → get_or questions (place q) q ≡ q
questions_at q asks =
    let there = question_at (place q) q (place_within q asks) in
    place_apart (get_or questions (place q) q) q there.0 asks there.1

pub written_count : (E : Emergencies) (D : Services) → length (written E D) ≡ 594
unfolding written
written_count E D = length-map questions (figure E D) ∙ questions_count

pub written_at : (E : Emergencies) (D : Services) (q : Question) → Asks q → get_or (written E D) (place q) 0 ≡ figure E D q
unfolding written
written_at E D q asks =
    get_or-map (figure E D) questions (place q) q 0 (let n = questions_count in let w = place_within q asks in omega arith)
    ∙ ap (figure E D) (questions_at q asks)

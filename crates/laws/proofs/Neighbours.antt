-- Figures in order with their neighbours keep the four laws, and figures that keep them are in order. Assumes nothing.
use Rattle.std.proofs.Common.{◌≡◌, ℕ, zero, suc, ◌+◌, ◌-◌, ◌<◌, ◌≤◌, Bool, true, false, not, ◌&&◌, ◌||◌, leb, ◌⊎◌, List, [], ◌∷◌, length, get_or, Some, None, Decides, Option, refl, subst, inl, inr, le_trans, le_refl, arith, ltb-true, lt-ltb, le-leb, leb-true}
use Rattle.std.specs.List.{list_all}
use Rattle.std.proofs.lemmas.Bool.{and_parts, and_from}
use Rattle.std.proofs.lemmas.Bool.Decides.{Decides-at}
use Rattle.codes.specs.declared.speeds.Speed.{Speed}
use Rattle.codes.specs.declared.speeds.Speed.TheVariants.{V30, V40, V50, V60, V70, V80, V90, V100, V120}
use Rattle.codes.specs.declared.speeds.Code.{Code}
use Rattle.codes.specs.declared.speeds.Code.TheVariants.{Stop, Go}
use Rattle.codes.specs.declared.gradients.Class.{Class}
use Rattle.codes.specs.declared.gradients.Class.TheVariants.{C1, C2, C3, C4, C5, C6, C7, C8, C9, C10, C11}
use Rattle.codes.specs.Speeds.{kmh, byte, lower, speeds, codes}
use Rattle.codes.specs.Gradients.{number, classes}
use Rattle.laws.specs.Books.{Emergencies, Services, Laws}
use Rattle.laws.specs.Questions.{column, rank}
use Rattle.laws.specs.Order.{due, next_speed, next_code, next_class, next_to_kept, next_from_kept, next_class_kept, emergency_in_order, to_in_order, service_from_kept, service_class_kept, service_in_order, row_in_order, class_in_order, in_order}

-- ---- a test at each of a list

each_at : {X : Type 0} (xs : List X) (test : X → Bool) → list_all test xs ≡ true → (i : ℕ) (x : X) → i < length xs → get_or xs i x ≡ x → test x ≡ true
each_at [] test passes i x l e = absurd (omega arith)
each_at (y ∷ ys) test passes zero x l e = subst (λ z. test z ≡ true) e (and_parts (test y) (list_all test ys) passes).0
each_at (y ∷ ys) test passes (suc i) x l e = each_at ys test (and_parts (test y) (list_all test ys) passes).1 i x (omega arith) e

pub each_from : {X : Type 0} (xs : List X) (test : X → Bool) → ((x : X) → test x ≡ true) → list_all test xs ≡ true
each_from [] test all = refl
each_from (x ∷ xs) test all = and_from (test x) (list_all test xs) (all x) (each_from xs test all)

class_within : (k : Class) → (number k - 1 < 11) × (get_or classes (number k - 1) k ≡ k)
class_within k = grind arith

speed_within : (v : Speed) → (column v < 9) × (get_or speeds (column v) v ≡ v)
speed_within v = grind arith

code_within : (c : Code) → (rank c < 10) × (get_or codes (rank c) c ≡ c)
code_within c = grind arith

pub each_class : (test : Class → Bool) → list_all test classes ≡ true → (k : Class) → test k ≡ true
each_class test passes k = each_at classes test passes (number k - 1) k (class_within k).0 (class_within k).1

pub each_speed : (test : Speed → Bool) → list_all test speeds ≡ true → (v : Speed) → test v ≡ true
each_speed test passes v = each_at speeds test passes (column v) v (speed_within v).0 (speed_within v).1

pub each_code : (test : Code → Bool) → list_all test codes ≡ true → (c : Code) → test c ≡ true
each_code test passes c = each_at codes test passes (rank c) c (code_within c).0 (code_within c).1

-- ---- from neighbour to neighbour

-- the orders of speeds, codes and classes are those of their places
column_rises : (v w : Speed) → kmh v ≤ kmh w → column v ≤ column w
column_rises v w l = grind arith

rank_rises : (a b : Code) → byte a ≤ byte b → rank a ≤ rank b
rank_rises a b l = grind arith

kmh_rises : (v w : Speed) → column v ≤ column w → kmh v ≤ kmh w
kmh_rises v w l = grind arith

byte_rises : (a b : Code) → rank a ≤ rank b → byte a ≤ byte b
byte_rises a b l = grind arith

-- a neighbour stands one place further
next_speed_place : (v w : Speed) → next_speed v ≡ Some w → column w ≡ suc (column v)
next_speed_place V30 w e = grind arith
next_speed_place V40 w e = grind arith
next_speed_place V50 w e = grind arith
next_speed_place V60 w e = grind arith
next_speed_place V70 w e = grind arith
next_speed_place V80 w e = grind arith
next_speed_place V90 w e = grind arith
next_speed_place V100 w e = grind arith
next_speed_place V120 w e = grind arith

next_code_place : (a b : Code) → next_code a ≡ Some b → rank b ≡ suc (rank a)
next_code_place Stop b e = grind arith
next_code_place (Go V30) b e = grind arith
next_code_place (Go V40) b e = grind arith
next_code_place (Go V50) b e = grind arith
next_code_place (Go V60) b e = grind arith
next_code_place (Go V70) b e = grind arith
next_code_place (Go V80) b e = grind arith
next_code_place (Go V90) b e = grind arith
next_code_place (Go V100) b e = grind arith
next_code_place (Go V120) b e = grind arith

next_class_place : (j k : Class) → next_class j ≡ Some k → number k ≡ suc (number j)
next_class_place C1 k e = grind arith
next_class_place C2 k e = grind arith
next_class_place C3 k e = grind arith
next_class_place C4 k e = grind arith
next_class_place C5 k e = grind arith
next_class_place C6 k e = grind arith
next_class_place C7 k e = grind arith
next_class_place C8 k e = grind arith
next_class_place C9 k e = grind arith
next_class_place C10 k e = grind arith
next_class_place C11 k e = grind arith

-- one without a neighbour is the highest
speed_top : (v w : Speed) → next_speed v ≡ None → column w ≤ column v
speed_top v w e = grind arith

code_top : (a b : Code) → next_code a ≡ None → rank b ≤ rank a
code_top a b e = grind arith

class_top : (j k : Class) → next_class j ≡ None → number k ≤ number j
class_top j k e = grind arith

-- one place has one speed, code or class
pub same_speed : (v w : Speed) → column v ≡ column w → v ≡ w
same_speed v w e = grind arith

pub same_code : (a b : Code) → rank a ≡ rank b → a ≡ b
same_code a b e = grind arith

pub same_class : (j k : Class) → number j ≡ number k → j ≡ k
same_class j k e = grind arith

found : {X : Type 0} (o : Option X) → (o ≡ None) ⊎ ((x : X) × (o ≡ Some x))
found None = inl refl
found (Some x) = inr (x, refl)

-- What relates each one to the next relates any to a higher one.
module _ {X : Type 0} (place : X → ℕ) (next : X → Option X)
    (same : (x y : X) → place x ≡ place y → x ≡ y)
    (next_place : (x y : X) → next x ≡ Some y → place y ≡ suc (place x))
    (top : (x y : X) → next x ≡ None → place y ≤ place x)
    (R : ℕ → ℕ → Type 0) (level : (n : ℕ) → R n n) (join : (l m n : ℕ) → R l m → R m n → R l n) (F : X → ℕ) where
  climbs : (n : ℕ) (a b : X) → place b ≡ place a + n → ((x y : X) → place a ≤ place x → place y ≤ place b → next x ≡ Some y → R (F x) (F y)) → R (F a) (F b)
  climbs zero a b e step = let h : place a ≡ place b = omega arith in subst (λ x. R (F a) (F x)) (same a b h) (level (F a))
  climbs (suc n) a b e step =
      elim (found (next a)) [
        | inl none ↦ absurd (let highest = top a b none in omega arith)
        | inr one ↦
            let further = next_place a one.0 one.1 in
            join (F a) (F one.0) (F b) (step a one.0 (omega arith) (omega arith) one.1)
            (climbs n one.0 b (omega arith) (λ x y l m. step x y (omega arith) m))
      ]

up_speeds : (F : Speed → ℕ) (a b : Speed) → kmh a ≤ kmh b → ((x y : Speed) → kmh a ≤ kmh x → next_speed x ≡ Some y → F x ≤ F y) → F a ≤ F b
up_speeds F a b l step =
    let places = column_rises a b l in
    climbs column next_speed same_speed next_speed_place speed_top (λ m n. m ≤ n) le_refl (λ x y z p q. le_trans p q) F (column b - column a) a b (omega arith)
    (λ x y low high e. step x y (kmh_rises a x low) e)

down_codes : (F : Code → ℕ) (a b : Code) → byte a ≤ byte b → ((x y : Code) → byte y ≤ byte b → next_code x ≡ Some y → F y ≤ F x) → F b ≤ F a
down_codes F a b l step =
    let places = rank_rises a b l in
    climbs rank next_code same_code next_code_place code_top (λ m n. n ≤ m) le_refl (λ x y z p q. le_trans q p) F (rank b - rank a) a b (omega arith)
    (λ x y low high e. step x y (byte_rises y b high) e)

up_classes : (F : Class → ℕ) (a b : Class) → number a ≤ number b → ((x y : Class) → next_class x ≡ Some y → F x ≤ F y) → F a ≤ F b
up_classes F a b l step =
    climbs number next_class same_class next_class_place class_top (λ m n. m ≤ n) le_refl (λ x y z p q. le_trans p q) F (number b - number a) a b (omega arith)
    (λ x y low high e. step x y e)

-- ---- the laws from the test

due_at : {X : Type 0} (o : Option X) (x : X) (test : X → Bool) → o ≡ Some x → due o test ≡ true → test x ≡ true
due_at o x test e passes = subst (λ p. due p test ≡ true) e passes

guarded : (b t : Bool) → b ≡ true → (not b || t) ≡ true → t ≡ true
guarded true t e passes = passes
guarded false t e passes = let z : t ≡ true = cc in z

module _ (E : Emergencies) (D : Services) (ordered : in_order E D ≡ true) where
  row : (k : Class) (from : Speed) → (service_in_order D k from ≡ true) × (list_all (to_in_order E k from) codes ≡ true)
  unfolding row_in_order class_in_order in_order
  row k from =
      and_parts (service_in_order D k from) (list_all (to_in_order E k from) codes)
      (each_speed (row_in_order E D k) (each_class (class_in_order E D) ordered k) from)

  emergency_passes : (k : Class) (from : Speed) (to : Code) → byte to < kmh from → emergency_in_order E k from to ≡ true
  emergency_passes k from to l =
      guarded (lower to (Go from)) (emergency_in_order E k from to) (lt-ltb (byte to) (kmh from) l) (each_code (to_in_order E k from) (row k from).1 to)

  emergency_parts : (k : Class) (from : Speed) (to : Code) → byte to < kmh from → ((next_to_kept E k from to && next_from_kept E k from to) ≡ true) × (next_class_kept E k from to ≡ true)
  emergency_parts k from to l = and_parts (next_to_kept E k from to && next_from_kept E k from to) (next_class_kept E k from to) (emergency_passes k from to l)

  to_step : (k : Class) (from : Speed) (low high : Code) → byte high < kmh from → next_code low ≡ Some high → E k from high ≤ E k from low
  to_step k from low high l e =
      let rises = next_code_place low high e in
      let under = byte_rises low high (omega arith) in
      let passes = due_at (next_code low) high (λ to. not (lower to (Go from)) || leb (E k from to) (E k from low)) e
      (and_parts (next_to_kept E k from low) (next_from_kept E k from low) (emergency_parts k from low (omega arith)).0).0 in
      leb-true _ _ (guarded (lower high (Go from)) (leb (E k from high) (E k from low)) (lt-ltb (byte high) (kmh from) l) passes)

  from_step : (k : Class) (low high : Speed) (to : Code) → byte to < kmh low → next_speed low ≡ Some high → E k low to ≤ E k high to
  from_step k low high to l e =
      leb-true _ _ (due_at (next_speed low) high (λ from. leb (E k low to) (E k from to)) e
      (and_parts (next_to_kept E k low to) (next_from_kept E k low to) (emergency_parts k low to l).0).1)

  class_step : (j k : Class) (from : Speed) (to : Code) → byte to < kmh from → next_class j ≡ Some k → E j from to ≤ E k from to
  class_step j k from to l e = leb-true _ _ (due_at (next_class j) k (λ i. leb (E j from to) (E i from to)) e (emergency_parts j from to l).1)

  service_parts : (k : Class) (from : Speed) → (service_from_kept D k from ≡ true) × (service_class_kept D k from ≡ true)
  service_parts k from = and_parts (service_from_kept D k from) (service_class_kept D k from) (row k from).0

  pub laws_from_order : Laws E D
  laws_from_order = record {
    higher_to = λ k from low high l m. down_codes (E k from) low high l (λ x y under e. to_step k from x y (omega arith) e);
    higher_from = λ k low high to l m. up_speeds (λ from. E k from to) low high m (λ x y above e. from_step k x y to (omega arith) e);
    higher_service = λ k low high l.
        up_speeds (D k) low high l (λ x y above e. leb-true _ _ (due_at (next_speed x) y (λ from. leb (D k x) (D k from)) e (service_parts k x).0));
    steeper_emergency = λ j k from to l m. up_classes (λ i. E i from to) j k l (λ x y e. class_step x y from to m e);
    steeper_service = λ j k from l.
        up_classes (λ i. D i from) j k l (λ x y e. leb-true _ _ (due_at (next_class x) y (λ i. leb (D x from) (D i from)) e (service_parts x from).1));
  }

-- ---- the test from the laws

due_from : {X : Type 0} (o : Option X) (test : X → Bool) → ((x : X) → o ≡ Some x → test x ≡ true) → due o test ≡ true
due_from None test all = refl
due_from (Some x) test all = all x refl

unguarded : (b t : Bool) → (b ≡ true → t ≡ true) → (not b || t) ≡ true
unguarded true t h = h refl
unguarded false t h = refl

module _ (E : Emergencies) (D : Services) (laws : Laws E D) where
  emergency_kept : (k : Class) (from : Speed) (to : Code) → byte to < kmh from → emergency_in_order E k from to ≡ true
  emergency_kept k from to l =
      and_from (next_to_kept E k from to && next_from_kept E k from to) (next_class_kept E k from to)
      (and_from (next_to_kept E k from to) (next_from_kept E k from to)
      (due_from (next_code to) (λ high. not (lower high (Go from)) || leb (E k from high) (E k from to)) (λ high e.
      let place = next_code_place to high e in
      unguarded (lower high (Go from)) (leb (E k from high) (E k from to)) (λ under.
      le-leb _ _ (laws.higher_to k from to high (byte_rises to high (omega arith)) (ltb-true _ _ under)))))
      (due_from (next_speed from) (λ high. leb (E k from to) (E k high to)) (λ high e.
      let place = next_speed_place from high e in le-leb _ _ (laws.higher_from k from high to l (kmh_rises from high (omega arith))))))
      (due_from (next_class k) (λ steeper. leb (E k from to) (E steeper from to)) (λ steeper e.
      let place = next_class_place k steeper e in le-leb _ _ (laws.steeper_emergency k steeper from to (omega arith) l)))

  service_kept : (k : Class) (from : Speed) → service_in_order D k from ≡ true
  service_kept k from =
      and_from (service_from_kept D k from) (service_class_kept D k from)
      (due_from (next_speed from) (λ high. leb (D k from) (D k high)) (λ high e.
      let place = next_speed_place from high e in le-leb _ _ (laws.higher_service k from high (kmh_rises from high (omega arith)))))
      (due_from (next_class k) (λ steeper. leb (D k from) (D steeper from)) (λ steeper e.
      let place = next_class_place k steeper e in le-leb _ _ (laws.steeper_service k steeper from (omega arith))))

  pub order_from_laws : in_order E D ≡ true
  unfolding row_in_order class_in_order in_order
  order_from_laws =
      each_from classes (class_in_order E D) (λ k. each_from speeds (row_in_order E D k) (λ from.
      and_from (service_in_order D k from) (list_all (to_in_order E k from) codes) (service_kept k from)
      (each_from codes (to_in_order E k from) (λ to. unguarded (lower to (Go from)) (emergency_in_order E k from to) (λ under. emergency_kept k from to (ltb-true _ _ under))))))

pub order_decides : (E : Emergencies) (D : Services) → Decides (in_order E D) (Laws E D)
order_decides E D = (laws_from_order E D, order_from_laws E D)

-- an answer that is the test's decides the laws
pub laws_decided : (E : Emergencies) (D : Services) (b : Bool) → b ≡ in_order E D → Decides b (Laws E D)
laws_decided E D b e = Decides-at b (in_order E D) e (order_decides E D)

-- Bytes spell one list of records at most. Assumes nothing.
use Rattle.std.proofs.Common.{◌≡◌, ℕ, ◌<◌, List, [], ◌∷◌, ◌++◌, length, sym, refl, ap, ◌∙◌, arith}
use Rattle.std.specs.List.{AllByRecursion}
use Rattle.std.proofs.lemmas.List.{append_assoc, append-nil, append_cancel_left, flat_map_more}
use Rattle.codes.specs.Refusals.{gives}
use Rattle.laws.specs.Books.{Emergencies, Services}
use Rattle.laws.specs.Questions.{Question, Asks, figure}
use Rattle.bookrecords.specs.Records.{Said, spelt, spelling, Possible}
use Rattle.bookrecords.specs.Decoding.{decoded}
use Rattle.bookrecords.specs.Files.{given, Means}
use Rattle.bookrecords.proofs.Decodes.{decoded_spelt}

pub spelling_push : (rs : List Said) (s : Said) → spelling (rs ++ s ∷ []) ≡ spelling rs ++ spelt s
unfolding spelling
spelling_push rs s = sym (flat_map_more spelt [] rs s)

pub spelling_cons : (s : Said) (rs : List Said) → spelling (s ∷ rs) ≡ spelt s ++ spelling rs
unfolding spelling
spelling_cons s rs = refl

-- a record is not empty
pub spelt_some : (s : Said) (t : List ℕ) → 0 < length (spelt s ++ t)
spelt_some s t = omega arith

-- what begins with two records begins with one
module _ (s r : Said) (t u : List ℕ) (ps : Possible s) (pr : Possible r) (e : spelt s ++ t ≡ spelt r ++ u) where
  pub same_front : s ≡ r
  same_front = let told : gives s ≡ gives r = sym (decoded_spelt s ps t) ∙ ap decoded e ∙ decoded_spelt r pr u in cc

  pub same_behind : t ≡ u
  same_behind = append_cancel_left (spelt s) t u (e ∙ ap (λ x. spelt x ++ u) (sym same_front))

-- the records at the front of a file are the first of its records
pub record Continues (rs : List Said) (rest : List ℕ) (all : List Said) : Type 0 where
  pub further : List Said
  pub joined : all ≡ rs ++ further
  pub spelt : rest ≡ spelling further
  pub possible : AllByRecursion Possible further

pub continues : (rs : List Said) (rest : List ℕ) (all : List Said) → AllByRecursion Possible rs → AllByRecursion Possible all → spelling rs ++ rest ≡ spelling all → Continues rs rest all
unfolding spelling
continues [] rest all p q e = record { further = all; joined = refl; spelt = e; possible = q }
continues (r ∷ rs) rest [] p q e = absurd (let some = spelt_some r (spelling rs ++ rest) in let none = ap length (sym (append_assoc (spelt r) (spelling rs) rest) ∙ e) in omega arith)
continues (r ∷ rs) rest (s ∷ all) p q e =
    let apart : spelt r ++ (spelling rs ++ rest) ≡ spelt s ++ spelling all = sym (append_assoc (spelt r) (spelling rs) rest) ∙ e in
    let front = same_front r s (spelling rs ++ rest) (spelling all) p.0 q.0 apart in
    let behind = same_behind r s (spelling rs ++ rest) (spelling all) p.0 q.0 apart in
    let more = continues rs rest all p.1 q.1 behind in
    record { further = more.further; joined = ap (λ x. x ∷ all) (sym front) ∙ ap (λ xs. r ∷ xs) more.joined; spelt = more.spelt; possible = more.possible }

pub spelling_none : (rs : List Said) → [] ≡ spelling rs → rs ≡ []
unfolding spelling
spelling_none [] e = refl
spelling_none (r ∷ rs) e = absurd (let some = spelt_some r (spelling rs) in let none = ap length e in omega arith)

pub same_records : (rs ss : List Said) → AllByRecursion Possible rs → AllByRecursion Possible ss → spelling rs ≡ spelling ss → ss ≡ rs
same_records rs ss p q e =
    let more = continues rs [] ss p q (append-nil (spelling rs) ∙ e) in
    more.joined ∙ ap (λ xs. rs ++ xs) (spelling_none more.further more.spelt) ∙ append-nil rs

-- a file is that of one book at most
pub same_book : (file : List ℕ) (E E' : Emergencies) (D D' : Services) → Means file E D → Means file E' D' → (q : Question) → Asks q → figure E D q ≡ figure E' D' q
same_book file E E' D D' one other q asks =
    let records = same_records one.records other.records one.possible other.possible (sym one.spelt ∙ other.spelt) in
    let figures : figure E D q ∷ [] ≡ figure E' D' q ∷ [] = sym (one.once q asks) ∙ ap (given q) (sym records) ∙ other.once q asks in
    cc

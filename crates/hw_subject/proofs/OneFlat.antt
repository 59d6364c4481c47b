-- The bytes of a flat text give one problem, or one refusal, and never both.
use Rattle.std.proofs.Common.{◌≡◌, ◌≤◌, ◌<◌, ◌∙◌, ℕ, true, false, cond, List, length, Option, Some, None, Result, Ok, Err, IsSome, sym, ap, arith}
use Rattle.std.proofs.lemmas.Bool.{le-ltb, lt-ltb}
use Rattle.hw_model.specs.Problem.{Problem}
use Rattle.hw_desk.specs.declared.desk.Feed.TheVariants as feeds
use Rattle.hw_flat.specs.Text.{Fault, flat_text}
use Rattle.hw_cert.specs.declared.version.Version.{Version}
use Rattle.hw_cert.specs.declared.version.Version.TheVariants.{Two}
use Rattle.hw_report.specs.Reports.{Report, by_number, bad_flat, too_long}
use Rattle.hw_command.specs.Inputs.{NoFlat}
use Rattle.hw_command.specs.Values.{most_bytes, IsProblemText}
use Rattle.hw_subject.specs.Subjects.{IsProblemOf}
use Rattle.hw_subject.specs.Texts.{plan_report, read_report, texts_report}

-- ---- by the bytes

within : (most : Version) (text : List ℕ) (plan : Option (List ℕ)) (bytes : List ℕ) → length text ≤ most_bytes → texts_report most text plan bytes ≡ read_report most (flat_text text) plan bytes
within most text plan bytes h = ap (λ b. cond b (too_long feeds.Flat) (read_report most (flat_text text) plan bytes)) (le-ltb _ _ h)

-- a text of this problem
pub of_text : (most : Version) (f : Problem) (text : List ℕ) (plan : Option (List ℕ)) (bytes : List ℕ) → IsProblemText f text → texts_report most text plan bytes ≡ plan_report most by_number f plan bytes
of_text most f text plan bytes h = within most text plan bytes h.0 ∙ ap (λ read. read_report most read plan bytes) h.1

-- a text that gives none
pub of_no_text : (most : Version) (text : List ℕ) (plan : Option (List ℕ)) (bytes : List ℕ) (r : Report) → NoFlat (Some text) r → r ≡ texts_report most text plan bytes
of_no_text most text plan bytes (bad_flat number word) h = sym (within most text plan bytes h.0 ∙ ap (λ read. read_report most read plan bytes) h.1)
of_no_text most text plan bytes (too_long feeds.Flat) h = sym (ap (λ passes. cond passes (too_long feeds.Flat) (read_report most (flat_text text) plan bytes)) (lt-ltb _ _ h))
of_no_text most text plan bytes r h = absurd h

-- ---- as a subject

-- bytes that aren't told
pub no_bytes : IsSome {T = List ℕ} None → ⊥
no_bytes told = let never : false ≡ true = told in absurd (cc)

one_read : {f g : Problem} {read : Result Problem Fault} → read ≡ Ok f → read ≡ Ok g → f ≡ g
one_read h k = cc

bad_read : {f : Problem} {bad : Fault} {read : Result Problem Fault} → read ≡ Ok f → read ≡ Err bad → ⊥
bad_read h k = absurd (cc)

too_many : {n m : ℕ} → n ≤ m → m < n → ⊥
too_many h k = omega arith

pub one_problem : (text : Option (List ℕ)) (f g : Problem) → IsSome text → IsProblemOf text f → IsProblemOf text g → f ≡ g
one_problem None f g told h k = absurd (no_bytes told)
one_problem (Some text) f g told h k = one_read h.reads.1 k.reads.1

pub one_flat_refusal : (text : Option (List ℕ)) (r t : Report) → IsSome text → NoFlat text r → NoFlat text t → r ≡ t
one_flat_refusal None r t told h k = absurd (no_bytes told)
one_flat_refusal (Some text) r t told h k = of_no_text Two text None text r h ∙ sym (of_no_text Two text None text t k)

pub flat_apart : (text : Option (List ℕ)) (f : Problem) (r : Report) → IsSome text → IsProblemOf text f → NoFlat text r → ⊥
flat_apart None f r told h k = absurd (no_bytes told)
flat_apart (Some text) f (bad_flat number word) told h k = bad_read h.reads.1 k.1
flat_apart (Some text) f (too_long feeds.Flat) told h k = too_many h.reads.0 k
flat_apart (Some text) f r told h k = k

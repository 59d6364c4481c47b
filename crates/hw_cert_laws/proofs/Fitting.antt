-- Renewed lines are of the problem's shape where the lines are; and what law functions say of renewing.
use Rattle.std.proofs.Common.{◌≡◌, ℕ, ◌+◌, ◌<◌, ◌&&◌, not, true, false, max, fold, List, [], ◌∷◌, ◌++◌, Option, Some, None, All, refl, sym, ◌∙◌, arith}
use Rattle.std.proofs.lemmas.List.Elements.{All-nil, All-cons, All-head, All-tail, All-append, All-weaker}
use Rattle.std.proofs.lemmas.List.Kept.{IsStrictlyIncreasing-filter}
use Rattle.std.specs.List.Sorted.{IsStrictlyIncreasing}
use Rattle.hw_lemmas.proofs.Lists.{range_ascends}
use Rattle.hw_model.specs.declared.lit.Lit.{Lit}
use Rattle.hw_model.specs.Problem.{Problem}
use Rattle.hw_cert_lines.specs.declared.line.Line.{Line}
use Rattle.hw_cert_lines.specs.declared.line.Line.TheVariants as lines
use Rattle.hw_cert_lines.specs.Lines.{clause_of, is_closed, ends}
use Rattle.hw_cert_lines.specs.Valid.{LineFits, ValidAfter, ValidFrom, Valid}
use Rattle.hw_cert_lines.proofs.Closed.{closed_from}
use Rattle.hw_cert_lines.proofs.Live.{live_above}
use Rattle.hw_cert_laws.specs.Renewing.{hints_of, has_hint, is_hint_of, last_named, never_named, deletion, deletions, undeleting, next_number, renewed_from, renewed, RenewingKeeps}
use Rattle.hw_cert_laws.proofs.Naming.{hints_live}
use Rattle.hw_cert_laws.proofs.Stays.{best_same}
use Rattle.hw_cert_laws.proofs.Staying.{last_parts, never_is}
use Rattle.hw_cert_laws.proofs.Renewed.{all_renewed}

-- ---- numbers that ascend

one_ascends : (n : ℕ) → IsStrictlyIncreasing (n ∷ [])
one_ascends n = λ k lt. absurd (omega (arith, lt))

pub last_ascends : (line : Line) (later : List Line) → IsStrictlyIncreasing (last_named line later)
last_ascends line later = IsStrictlyIncreasing-filter (λ id. has_hint id line && not (is_hint_of later id)) _ (range_ascends 0 (fold max 0 (hints_of line) + 1))

never_ascends : (n : ℕ) (later : List Line) → IsStrictlyIncreasing (never_named n later)
never_ascends n later = IsStrictlyIncreasing-filter (λ id. not (is_hint_of later id)) (n ∷ []) (one_ascends n)

-- ---- lines that fit

deletion_fits : (f : Problem) (ids : List ℕ) → All (λ id. 0 < id) ids → IsStrictlyIncreasing ids → All (LineFits f) (deletion ids)
deletion_fits f [] above ascends = All-nil (LineFits f)
deletion_fits f (id ∷ ids) above ascends = All-cons (LineFits f) (lines.Delete (id ∷ ids)) [] (omega arith, All-head (λ id. 0 < id) id ids above, ascends) (All-nil (LineFits f))

last_above : (f : Problem) (before later : List Line) (line : Line) → ValidAfter f before line → All (λ id. 0 < id) (last_named line later)
last_above f before later line valid = All-weaker (λ id. (has_hint id line ≡ true) × (is_hint_of later id ≡ false)) (λ id. 0 < id) (λ id parts. live_above before id (hints_live f before line valid id parts.0)) (last_named line later) (last_parts line later)

never_above : (n : ℕ) (later : List Line) → 0 < n → All (λ id. 0 < id) (never_named n later)
never_above n later lt = All-weaker (λ id. id ≡ n) (λ id. 0 < id) (λ id e. omega (arith, e, lt)) (never_named n later) (never_is n later)

deletions_fit : (f : Problem) (before later : List Line) (line : Line) (n : ℕ) (o : Option (List Lit)) → 0 < n → ValidAfter f before line → All (LineFits f) (deletions n line later o)
deletions_fit f before later line n None lt valid = All-nil (LineFits f)
deletions_fit f before later line n (Some []) lt valid = All-nil (LineFits f)
deletions_fit f before later line n (Some (lit ∷ lits)) lt valid =
    All-append (LineFits f) (deletion (last_named line later)) (deletion (never_named n later))
    (deletion_fits f (last_named line later) (last_above f before later line valid) (last_ascends line later))
    (deletion_fits f (never_named n later) (never_above n later lt) (never_ascends n later))

itself_fits : (f : Problem) (line : Line) → LineFits f line → All (LineFits f) (undeleting line)
itself_fits f (lines.Table table) fits = All-cons (LineFits f) (lines.Table table) [] fits (All-nil (LineFits f))
itself_fits f (lines.Explain n clause) fits = All-cons (LineFits f) (lines.Explain n clause) [] fits (All-nil (LineFits f))
itself_fits f (lines.Order v w x clause) fits = All-cons (LineFits f) (lines.Order v w x clause) [] fits (All-nil (LineFits f))
itself_fits f (lines.Goal clause) fits = All-cons (LineFits f) (lines.Goal clause) [] fits (All-nil (LineFits f))
itself_fits f (lines.Lemma clause hints) fits = All-cons (LineFits f) (lines.Lemma clause hints) [] fits (All-nil (LineFits f))
itself_fits f (lines.Delete ids) fits = All-nil (LineFits f)
itself_fits f (lines.Toll toll) fits = All-cons (LineFits f) (lines.Toll toll) [] fits (All-nil (LineFits f))
itself_fits f (lines.Tariff tariff) fits = All-cons (LineFits f) (lines.Tariff tariff) [] fits (All-nil (LineFits f))
itself_fits f (lines.Priced clause) fits = All-cons (LineFits f) (lines.Priced clause) [] fits (All-nil (LineFits f))
itself_fits f (lines.Bound bound) fits = All-cons (LineFits f) (lines.Bound bound) [] fits (All-nil (LineFits f))

next_above : (n : ℕ) (o : Option (List Lit)) → 0 < n → 0 < next_number n o
next_above n None lt = lt
next_above n (Some clause) lt = omega (arith, lt)

fit_from : (f : Problem) (later before : List Line) (n : ℕ) → 0 < n → ValidFrom f before later → All (LineFits f) later → All (LineFits f) (renewed_from n later)
fit_from f [] before n lt valid fits = All-nil (LineFits f)
fit_from f (line ∷ later) before n lt valid fits =
    let own = itself_fits f line (All-head (LineFits f) line later fits) in
    let due = deletions_fit f before later line n (clause_of line) lt valid.0 in
    let rest = fit_from f later (before ++ line ∷ []) (next_number n (clause_of line)) (next_above n (clause_of line) lt) valid.1 (All-tail (LineFits f) line later fits) in
    All-append (LineFits f) _ _ (All-append (LineFits f) _ _ own due) rest

-- ---- the law

pub renewing_keeps : (f : Problem) (all : List Line) → Valid f all → RenewingKeeps f all
renewing_keeps f all valid =
    let whole = all_renewed f all valid in
    let old : ends all ≡ is_closed all = closed_from f all [] valid refl in
    let new : ends (renewed all) ≡ is_closed (renewed all) = closed_from f (renewed all) [] whole.valid refl in
    record {
      valid = whole.valid;
      same_verdict = rw (best_same f all (renewed all) whole.same, new ∙ whole.same.closed ∙ sym old) refl;
      same_clauses = whole.same.clauses;
      same_table = whole.same.table;
      same_tolls = whole.same.tolls;
      same_tariff = whole.same.tariff;
      same_bound = whole.same.bound;
      fit = λ fits. fit_from f all [] 1 (omega arith) valid fits;
    }

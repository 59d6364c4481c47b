-- What is kept after one more line of each kind.
use Rattle.std.proofs.Common.{◌≡◌, ℕ, ◌+◌, ◌<◌, ◌≤◌, ◌==◌, Bool, true, false, not, cond, List, [], ◌∷◌, ◌++◌, Option, Some, None, refl, sym, ap, ◌∙◌, arith}
use Rattle.std.proofs.lemmas.Bool.{ne_eqb, eq-eqb}
use Rattle.std.proofs.lemmas.List.Elements.{filter_map-append}
use Rattle.std.specs.List.{cons_option, list_any, range_with_len}
use Rattle.hw_model.specs.declared.lit.Lit.{Lit}
use Rattle.hw_model.specs.Problem.{Problem}
use Rattle.hw_price_laws.specs.declared.tariff.Tariff.{Tariff}
use Rattle.hw_price_laws.specs.declared.toll.Toll.{Toll}
use Rattle.hw_cert_lines.specs.declared.line.Line.{Line}
use Rattle.hw_cert_lines.specs.declared.line.Line.TheVariants as lines
use Rattle.hw_cert_lines.specs.Lines.{clause_of, clause_count, live, DeletesEarlier}
use Rattle.hw_cert_lines.specs.Laws.{ClausesStay}
use Rattle.hw_cert_lines.specs.Tolled.{toll_of}
use Rattle.hw_cert_lines.specs.Kept.{Kept, with_number, live_clauses, kept_of, with_clause, with_toll, without, kept_after}
use Rattle.hw_cert_lines.proofs.Pushed.{clause_added, table_added, numbers_deleted}
use Rattle.hw_cert_lines.proofs.Added.{toll_added, tariff_added, bound_added}
use Rattle.hw_cert_lines.proofs.Numbers.{numbered, numbered_same, range_more}

same_kept : (a b : Kept) → a.live ≡ b.live → a.next ≡ b.next → a.best ≡ b.best → a.closed ≡ b.closed → a.tolls ≡ b.tolls → a.tariff ≡ b.tariff → a.bound ≡ b.bound → a ≡ b
same_kept a b live next best closed tolls tariff bound =
    ap (λ held. record a { live = held }) live
    ∙ ap (λ number. record a { live = b.live; next = number }) next
    ∙ ap (λ cargo. record a { live = b.live; next = b.next; best = cargo }) best
    ∙ ap (λ end. record a { live = b.live; next = b.next; best = b.best; closed = end }) closed
    ∙ ap (λ known. record a { live = b.live; next = b.next; best = b.best; closed = b.closed; tolls = known }) tolls
    ∙ ap (λ prices. record b { tariff = prices; bound = a.bound }) tariff
    ∙ ap (λ most. record b { bound = most }) bound

pub clause_kept : (f : Problem) (before : List Line) (line : Line) (clause : List Lit) → DeletesEarlier before → clause_of line ≡ Some clause → kept_of f (before ++ line ∷ []) ≡ with_clause (kept_of f before) clause
clause_kept f before line clause earlier of =
    let more = clause_added f before line clause earlier of in
    let n = clause_count before in
    let after = before ++ line ∷ [] in
    let new : live after (1 + n) ≡ Some clause = more.live_ones (1 + n) ∙ ap (λ b. cond b (Some clause) (live before (1 + n))) (eq-eqb (1 + n) (n + 1) (omega arith)) in
    let old : (id : ℕ) → 1 ≤ id → id < 1 + n → live after id ≡ live before id = λ id le lt. more.live_ones id ∙ ap (λ b. cond b (Some clause) (live before id)) (ne_eqb id (n + 1) (λ e. omega (arith, e, lt))) in
    let all : live_clauses after ≡ live_clauses before ++ (record { id = n + 1; clause = clause }) ∷ [] =
    ap (λ k. numbered (live after) (range_with_len 1 k)) more.count
    ∙ ap (numbered (live after)) (range_more 1 n)
    ∙ filter_map-append (λ id. with_number id (live after id)) (range_with_len 1 n) ((1 + n) ∷ [])
    ∙ ap (λ xs. xs ++ cons_option (with_number (1 + n) (live after (1 + n))) []) (numbered_same (live after) (live before) 1 n old)
    ∙ ap (λ o. live_clauses before ++ cons_option (with_number (1 + n) o) []) new
    ∙ ap (λ k. live_clauses before ++ (record { id = k; clause = clause }) ∷ []) (turned n) in
    same_kept (kept_of f after) (with_clause (kept_of f before) clause) all (ap (λ k. k + 1) more.count) more.best more.closed more.prices.tolls more.prices.tariff more.prices.bound
  where
    turned : (n : ℕ) → 1 + n ≡ n + 1
    turned n = omega arith

deleted : (g : ℕ → Option (List Lit)) (ids among : List ℕ) → numbered (λ id. cond (list_any (λ other. other == id) ids) None (g id)) among ≡ without ids (numbered g among)
deleted g ids [] = refl
deleted g ids (id ∷ among) = by (list_any (λ other. other == id) ids) (g id) refl (deleted g ids among)
  where
    after : ℕ → Option (List Lit)
    after = λ id. cond (list_any (λ other. other == id) ids) None (g id)

    by : (b : Bool) (o : Option (List Lit)) → list_any (λ other. other == id) ids ≡ b → numbered after among ≡ without ids (numbered g among) → cons_option (with_number id (cond b None o)) (numbered after among) ≡ without ids (cons_option (with_number id o) (numbered g among))
    by true None e rest = rest
    by false None e rest = rest
    by true (Some lits) e rest = rest ∙ sym (ap (λ b. cond (not b) ((record { id = id; clause = lits }) ∷ without ids (numbered g among)) (without ids (numbered g among))) e)
    by false (Some lits) e rest = ap (λ xs. (record { id = id; clause = lits }) ∷ xs) rest ∙ sym (ap (λ b. cond (not b) ((record { id = id; clause = lits }) ∷ without ids (numbered g among)) (without ids (numbered g among))) e)

pub table_kept : (f : Problem) (before : List Line) (table : List ℕ) → kept_of f (before ++ lines.Table table ∷ []) ≡ kept_after f (kept_of f before) (lines.Table table)
table_kept f before table =
    let more = table_added f before table in
    let after = before ++ lines.Table table ∷ [] in
    same_kept (kept_of f after) (kept_after f (kept_of f before) (lines.Table table))
    (ap (λ k. numbered (live after) (range_with_len 1 k)) more.count ∙ numbered_same (live after) (live before) 1 (clause_count before) (λ id le lt. more.live_ones id))
    (ap (λ k. k + 1) more.count) more.best more.closed more.prices.tolls more.prices.tariff more.prices.bound

pub delete_kept : (f : Problem) (before : List Line) (ids : List ℕ) → kept_of f (before ++ lines.Delete ids ∷ []) ≡ kept_after f (kept_of f before) (lines.Delete ids)
delete_kept f before ids =
    let more = numbers_deleted f before ids in
    let after = before ++ lines.Delete ids ∷ [] in
    same_kept (kept_of f after) (kept_after f (kept_of f before) (lines.Delete ids))
    (ap (λ k. numbered (live after) (range_with_len 1 k)) more.count
    ∙ numbered_same (live after) (λ id. cond (list_any (λ other. other == id) ids) None (live before id)) 1 (clause_count before) (λ id le lt. more.live_ones id)
    ∙ deleted (live before) ids (range_with_len 1 (clause_count before)))
    (ap (λ k. k + 1) more.count) more.best more.closed more.prices.tolls more.prices.tariff more.prices.bound

-- the live clauses after a line without a clause or a deletion
live_stay : (f : Problem) (before after : List Line) → ClausesStay f before after → live_clauses after ≡ live_clauses before
live_stay f before after more = ap (λ k. numbered (live after) (range_with_len 1 k)) more.count ∙ numbered_same (live after) (live before) 1 (clause_count before) (λ id le lt. more.live_ones id)

pub toll_kept : (f : Problem) (before : List Line) (line : Line) (toll : Toll) → toll_of line ≡ Some toll → kept_of f (before ++ line ∷ []) ≡ with_toll (kept_of f before) toll
toll_kept f before line toll e =
    let more = toll_added f before line toll e in
    let after = before ++ line ∷ [] in
    same_kept (kept_of f after) (with_toll (kept_of f before) toll) (live_stay f before after more.clauses) (ap (λ k. k + 1) more.clauses.count) more.clauses.best more.clauses.closed more.tolls more.tariff more.bound

pub tariff_kept : (f : Problem) (before : List Line) (tariff : Tariff) → kept_of f (before ++ lines.Tariff tariff ∷ []) ≡ kept_after f (kept_of f before) (lines.Tariff tariff)
tariff_kept f before tariff =
    let more = tariff_added f before tariff in
    let after = before ++ lines.Tariff tariff ∷ [] in
    same_kept (kept_of f after) (kept_after f (kept_of f before) (lines.Tariff tariff)) (live_stay f before after more.clauses) (ap (λ k. k + 1) more.clauses.count) more.clauses.best more.clauses.closed more.tolls more.new_tariff more.bound

pub bound_kept : (f : Problem) (before : List Line) (bound : ℕ) → kept_of f (before ++ lines.Bound bound ∷ []) ≡ kept_after f (kept_of f before) (lines.Bound bound)
bound_kept f before bound =
    let more = bound_added f before bound in
    let after = before ++ lines.Bound bound ∷ [] in
    same_kept (kept_of f after) (kept_after f (kept_of f before) (lines.Bound bound)) (live_stay f before after more.clauses) (ap (λ k. k + 1) more.clauses.count) more.clauses.best more.clauses.closed more.tolls more.tariff more.new_bound

-- Certificates among the bytes of one input.
use Rattle.std.proofs.Common.{◌≡◌, ◌≤◌, ◌+◌, ◌-◌, ◌++◌, ◌∷◌, ◌∙◌, ℕ, List, [], true, false, Option, Result, Ok, Err, Vec, inl, length, length-drop, take, drop, drop_of_length-le, append_assoc, take-append-drop, refl, sym, ap, subst, arith}
use Rattle.std.proofs.Math.Seq.{take-append-add, take-length}
use Rattle.std.proofs.lemmas.List.{length-take-le}
use Rattle.std.proofs.lemmas.List.Elements.{All-cons, All-nil}
use Rattle.std.proofs.lemmas.List.Folds.{drop_split}
use Rattle.std.proofs.lemmas.List.Sums.{sum_by-append}
use Rattle.std.specs.Prelude.{All, IfSome, is_err, slice_range}
use Rattle.std.specs.declared.alloc.Global.{Global}
use Rattle.hw_model.specs.Problem.{Problem}
use Rattle.hw_desk.specs.Calls.{Begins, Moves}
use Rattle.hw_desk.specs.State.{DeskState}
use Rattle.hw_desk.specs.Whole.{ReadsWhole}
use Rattle.hw_desk.specs.declared.desk.Feed.TheVariants.{Certificate}
use Rattle.hw_desk.proofs.Chain.{only_feed_on}
use Rattle.hw_cert_lines.specs.declared.line.Line.{Line}
use Rattle.hw_cert_lines.specs.Valid.{LineFits}
use Rattle.hw_cert.specs.declared.version.Version.TheVariants.{Three}
use Rattle.hw_cert.proofs.Answered.{told_map}
use Rattle.hw_command.specs.Certificates.{cert_outcome_to}
use Rattle.hw_command.specs.Inputs.{Enters}
use Rattle.hw_command.specs.declared.outcome.CertOutcome.{CertOutcome}
use Rattle.hw_command.specs.declared.outcome.CertOutcome.TheVariants.{Shows, Wrong, TooLong}
use Rattle.hw_command.specs.declared.outcome.CertStop.{CertStop}
use Rattle.hw_command.specs.declared.outcome.CertStop.TheVariants.{Fault, NoMemory}
use Rattle.hw_cert_join.specs.Joining.{FitEach}
use Rattle.hw_command_split.specs.Certs.{AreCerts, CertAnswer, CertsAnswer, CertsComeTo, EndsFirst, FirstCerts, IsCertOf, ReadsCerts, StopsIn, lines_in, most_certs, moved_on, moved_stop}
use Rattle.hw_command.specs.Starting.{shows_nothing}

-- ---- one of them

-- the bytes up to its end
next_part : (bytes : List ℕ) (begin end : ℕ) → begin ≤ end → end ≤ length bytes → take end bytes ≡ take begin bytes ++ slice_range bytes begin end
next_part bytes begin end h k =
    let n = end - begin in
    let inside : begin ≤ length bytes = omega arith in
    let there : end ≡ begin + n = omega arith in
    ap (λ (k : ℕ). take k bytes) there
    ∙ ap (λ (all : List ℕ). take (begin + n) all) (sym (take-append-drop begin bytes))
    ∙ ap (λ (k : ℕ). take (k + n) (take begin bytes ++ drop begin bytes)) (sym (length-take-le begin bytes inside))
    ∙ take-append-add (take begin bytes) (drop begin bytes) n

-- their lines
pub lines_on : (bytes : List ℕ) (begin end : ℕ) → begin ≤ end → end ≤ length bytes → lines_in (take end bytes) ≡ lines_in (take begin bytes) + lines_in (slice_range bytes begin end)
lines_on bytes begin end h k = ap lines_in (next_part bytes begin end h k) ∙ sum_by-append _ (take begin bytes) (slice_range bytes begin end)

still_refused : (lines : ℕ) (o : CertOutcome) → shows_nothing o ≡ true → shows_nothing (moved_on lines o) ≡ true
still_refused lines (Shows v) h = h
still_refused lines (Wrong number word hint) h = h
still_refused lines TooLong h = h

-- what is said of all bytes from a begin on
pub from_begin : (bytes : List ℕ) (begin n : ℕ) → EndsFirst (slice_range bytes begin (length bytes)) n → EndsFirst (drop begin bytes) n
from_begin bytes begin n h = subst (λ (all : List ℕ). EndsFirst all n) (ap (λ (k : ℕ). take k (drop begin bytes)) (sym (length-drop begin bytes)) ∙ take-length (drop begin bytes)) h

-- the first of the bytes from its begin
ends_on : (bytes : List ℕ) (begin n end : ℕ) → end ≡ begin + n → end ≤ length bytes → EndsFirst (drop begin bytes) n → EndsFirst (slice_range bytes begin end ++ drop end bytes) (length (slice_range bytes begin end))
ends_on bytes begin n end is inside h =
    let le : begin ≤ end = omega (arith, is) in
    let rest : length (drop begin bytes) ≡ length bytes - begin = length-drop begin bytes in
    let own : end - begin ≤ length (drop begin bytes) = omega (arith, is, rest) in
    let there : end - begin ≡ n = omega (arith, is) in
    let long = length-take-le (end - begin) (drop begin bytes) own ∙ there in
    subst (λ (all : List ℕ). EndsFirst all (length (slice_range bytes begin end))) (drop_split bytes begin end le) (subst (EndsFirst (drop begin bytes)) (sym long) h)

-- it is refused
pub stops_among : (f : Problem) (certs : List (Vec Line Global)) (bytes : List ℕ) (before begin n : ℕ) (stopped : Result CertOutcome CertStop) → FirstCerts f certs bytes (drop begin bytes) → before ≡ lines_in (take begin bytes) → begin + n ≤ length bytes → EndsFirst (drop begin bytes) n → CertAnswer f (slice_range bytes begin (begin + n)) (Err stopped) → CertsAnswer f bytes (Err (moved_stop before stopped))
stops_among f certs bytes before begin n (Ok o) taken lines inside first h =
    let end = begin + n in
    let le : begin ≤ end = omega arith in
    let split = drop_split bytes begin end le in (
      still_refused before o h.0,
      record {
        before = take begin bytes;
        cert = slice_range bytes begin end;
        later = drop end bytes;
        parts = sym (take-append-drop begin bytes) ∙ ap (λ (rest : List ℕ). take begin bytes ++ rest) split ∙ sym (append_assoc (take begin bytes) (slice_range bytes begin end) (drop end bytes));
        taken = certs;
        are = subst (FirstCerts f certs bytes) split taken;
        ends = ends_on bytes begin n end refl inside first;
        own = ap (moved_on before) h.1 ∙ ap (λ (n : ℕ). moved_on n (cert_outcome_to Three f (slice_range bytes begin end))) lines;
      },
    )
stops_among f certs bytes before begin n (Err stop) taken lines inside first h = h

one_more : {f : Problem} (certs : List (Vec Line Global)) (cert : Vec Line Global) (bytes own rest : List ℕ) → FirstCerts f certs bytes (own ++ rest) → EndsFirst (own ++ rest) (length own) → IsCertOf f cert.items own → FirstCerts f (certs ++ cert ∷ []) bytes rest
one_more [] cert bytes own rest h ends k = (own, rest, h, subst (λ (all : List ℕ). EndsFirst all (length own)) (sym h) ends, k, refl)
one_more (first ∷ more) cert bytes own rest h ends k = (h.0, h.1, h.2, h.3, h.4, one_more more cert h.1 own rest h.5 ends k)

-- it is one
pub certs_on : {f : Problem} (certs : List (Vec Line Global)) (cert : Vec Line Global) (bytes : List ℕ) (begin n : ℕ) → begin + n ≤ length bytes → FirstCerts f certs bytes (drop begin bytes) → EndsFirst (drop begin bytes) n → IsCertOf f cert.items (slice_range bytes begin (begin + n)) → FirstCerts f (certs ++ cert ∷ []) bytes (drop (begin + n) bytes)
certs_on {f = f} certs cert bytes begin n inside taken first last =
    let end = begin + n in
    let le : begin ≤ end = omega arith in
    one_more certs cert bytes (slice_range bytes begin end) (drop end bytes) (subst (FirstCerts f certs bytes) (drop_split bytes begin end le) taken) (ends_on bytes begin n end refl inside first) last

-- it is the last one
pub certs_end : {f : Problem} (certs : List (Vec Line Global)) (cert : Vec Line Global) (bytes : List ℕ) (begin n : ℕ) → begin + n ≡ length bytes → FirstCerts f certs bytes (drop begin bytes) → EndsFirst (drop begin bytes) n → IsCertOf f cert.items (slice_range bytes begin (begin + n)) → AreCerts f (certs ++ cert ∷ []) bytes
certs_end {f = f} certs cert bytes begin n is taken first last =
    let inside : begin + n ≤ length bytes = omega (arith, is) in
    let whole : length bytes ≤ begin + n = omega (arith, is) in
    subst (FirstCerts f (certs ++ cert ∷ []) bytes) (drop_of_length-le bytes whole) (certs_on certs cert bytes begin n inside taken first last)

-- ---- all of them

entered : {E : Type 0} {name bytes : List ℕ} {x y z : DeskState} {begun : Result Unit E} → Begins Certificate name x y begun → Moves Certificate bytes y z → Enters Certificate name x z
entered {name = name} h k = record {
  only = only_feed_on h.only k.only;
  begun = k.begun ∙ h.begun;
  named = subst (λ (n : Option (List ℕ)). IfSome n (λ told. told ≡ name)) (sym k.named) h.named;
}

-- their lines are of the problem's shape
fit_each : (f : Problem) (certs : List (Vec Line Global)) (bytes rest : List ℕ) → FirstCerts f certs bytes rest → FitEach f certs
fit_each f [] bytes rest h = All-nil (λ (cert : Vec Line Global). All (LineFits f) cert.items)
fit_each f (cert ∷ more) bytes rest h = All-cons (λ (cert : Vec Line Global). All (LineFits f) cert.items) cert more h.4.fit (fit_each f more h.1 rest h.5)

-- what is said of the bytes that were read is said of those that are told
come_to : (f : Problem) (x z : DeskState) (told : Option (List ℕ)) (bytes : List ℕ) (result : Result (Vec (Vec Line Global) Global) (Result CertOutcome CertStop)) → IfSome told (λ all. all ≡ bytes) → z.read_faults ≡ x.read_faults → CertsAnswer f bytes result → CertsComeTo f told x z result
come_to f x z told bytes (Ok certs) all kept h = (kept, fit_each f certs.items bytes [] h, told_map told (λ xs same. subst (AreCerts f certs.items) (sym same) h) all)
come_to f x z told bytes (Err (Ok o)) all kept h = (kept, h.0, told_map told (λ xs same. inl (subst (StopsIn f o) (sym same) h.1)) all)
come_to f x z told bytes (Err (Err Fault)) all kept h = absurd (cc)
come_to f x z told bytes (Err (Err NoMemory)) all kept h = kept

-- each was checked
pub each_checked : {E : Type 0} {f : Problem} {name : List ℕ} {x y z : DeskState} {read : Vec ℕ Global} (begun : Result Unit E) (result : Result (Vec (Vec Line Global) Global) (Result CertOutcome CertStop)) → is_err begun ≡ false → Begins Certificate name x y begun → ReadsWhole Certificate most_certs y z (Ok read) → CertsAnswer f read.items result → ReadsCerts f name x z result
each_checked (Err failed) result e h k a = absurd (cc)
each_checked {f = f} {name = name} {x = x} {z = z} {read = read} (Ok u) result e h k a = record {
  enters = entered h k.moved.1;
  answer = come_to f x z (x.held name) read.items result (subst (λ (told : Option (List ℕ)). IfSome told (λ all. all ≡ read.items)) h.opened k.all) (k.kept (λ fault. absurd (cc)) ∙ h.kept) a;
}

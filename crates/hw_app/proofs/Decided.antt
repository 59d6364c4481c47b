-- What is told decides what is reported, whatever the names and the desk.
use Rattle.std.proofs.Common.{◌≡◌, ◌⊎◌, ◌∙◌, ℕ, List, Option, inl, inr, refl, sym, ap}
use Rattle.hw_model.specs.Problem.{Problem}
use Rattle.hw_cert.specs.declared.version.Version.{Version}
use Rattle.hw_cert.specs.declared.version.Version.TheVariants.{Three}
use Rattle.hw_repair.specs.Wishes.{PlanParts}
use Rattle.hw_report.specs.Reports.{Report, Naming}
use Rattle.hw_subject.specs.Subjects.{Subject, Topic, topic_subject}
use Rattle.hw_subject.specs.Decided.{IsDecided, DecidedBy}
use Rattle.hw_subject.specs.Texts.{cert_report}
use Rattle.hw_subject.proofs.Decided.{subjects_decided_law}
use Rattle.hw_subject.proofs.Reports.{certificates_decide_law}
use Rattle.hw_command_check.proofs.Renewed.{renewed_as_checked_law}
use Rattle.hw_app.specs.LawsOfReports.{CheckOf, RenewalOf}
use Rattle.hw_app.specs.Told.{IsTold}
use Rattle.hw_app.proofs.Told.{all_told, moved, refused_alike}

-- ---- a report by what is read

abbrev pub Last : Type 0
Last = Naming → Problem → Option PlanParts → Report

-- what is read of the inputs, and the report that is made of it
pub record ReportedBy (s : Subject) (held : List ℕ → Option (List ℕ)) (last : Naming → Problem → Option PlanParts → Report) (r : Report) : Type 0 where
  pub value : s.Value
  pub reads : s.Reads held value
  pub report : r ≡ last (s.naming value) (s.problem value) (s.plan value)

-- or why nothing is read
abbrev pub IsReported : Subject → (List ℕ → Option (List ℕ)) → Last → Report → Type 0
IsReported s held last r = s.Refuses held r ⊎ ReportedBy s held last r

-- over another desk that tells the same
pub carried : (a b bytes : Topic) (h g : List ℕ → Option (List ℕ)) (last : Last) (r : Report) → IsTold h a bytes → IsTold g b bytes → IsReported (topic_subject a) h last r → IsReported (topic_subject b) g last r
carried a b bytes h g last r x y (inl bad) = inl (refused_alike a b bytes h g r x y bad)
carried a b bytes h g last r x y (inr by) =
    let s = topic_subject a in
    let t = topic_subject b in
    let it = moved a b bytes h g x y by.value by.reads in
    inr (record {
      value = it.value;
      reads = it.reads;
      report = by.report ∙ ap (λ (n : Naming). last n (s.problem by.value) (s.plan by.value)) (sym it.naming) ∙ ap (λ (f : Problem). last (t.naming it.value) f (s.plan by.value)) (sym it.problem) ∙ ap (λ (o : Option PlanParts). last (t.naming it.value) (t.problem it.value) o) (sym it.plan);
    })

one_of : (s : Subject) (held : List ℕ → Option (List ℕ)) (last : Last) (r t : Report) → IsDecided s held → IsReported s held last r → IsReported s held last t → r ≡ t
one_of s held last r t d (inl a) (inl b) = d.one_refusal r t a b
one_of s held last r t d (inl a) (inr b) = absurd (d.apart b.value r b.reads a)
one_of s held last r t d (inr a) (inl b) = absurd (d.apart a.value t a.reads b)
one_of s held last r t d (inr a) (inr b) = a.report ∙ ap (λ (v : s.Value). last (s.naming v) (s.problem v) (s.plan v)) (d.one_value a.value b.value a.reads b.reads) ∙ sym b.report

-- one report over two desks that tell the same
pub one_across : (a b bytes : Topic) (h g : List ℕ → Option (List ℕ)) (last : Last) (r t : Report) → IsTold h a bytes → IsTold g b bytes → IsReported (topic_subject a) h last r → IsReported (topic_subject b) g last t → r ≡ t
one_across a b bytes h g last r t x y p q = one_of (topic_subject b) g last r t (subjects_decided_law b g (all_told b bytes g y)) (carried a b bytes h g last r x y p) q

-- ---- of a certificate

-- what its bytes make of what is read
abbrev pub by_cert : Version → List ℕ → Last
by_cert most cert names f plan = cert_report most names f plan cert

by_decided : (s : Subject) (most : Version) (held : List ℕ → Option (List ℕ)) (cert : List ℕ) (r : Report) → s.Refuses held r ⊎ DecidedBy s most held cert r → IsReported s held (by_cert most cert) r
by_decided s most held cert r (inl bad) = inl bad
by_decided s most held cert r (inr by) = inr (record { value = by.value; reads = by.reads; report = by.report })

pub check_reported : {most : Version} {bytes : Topic} {cert : List ℕ} {r : Report} → (h : CheckOf most bytes cert r) → IsReported (topic_subject h.topic) h.held (by_cert most cert) r
check_reported {most = most} {cert = cert} {r = r} h = by_decided (topic_subject h.topic) most h.held cert r (certificates_decide_law h.topic most h.name cert h.held r h.cert_told h.says)

pub one_check : (most : Version) (bytes : Topic) (cert : List ℕ) (r t : Report) → CheckOf most bytes cert r → CheckOf most bytes cert t → r ≡ t
one_check most bytes cert r t h g = one_across h.topic g.topic bytes h.held g.held (by_cert most cert) r t h.told g.told (check_reported h) (check_reported g)

-- a renewal reports what a check does
as_checked : {bytes : Topic} {cert : List ℕ} {r : Report} → RenewalOf bytes cert r → CheckOf Three bytes cert r
as_checked {r = r} h = record { topic = h.topic; name = h.name; held = h.old.held; told = h.told; cert_told = h.cert_told; says = renewed_as_checked_law h.topic h.name h.proof h.old h.new r h.says }

pub as_check : {bytes : Topic} {cert : List ℕ} {r : Report} → CheckOf Three bytes cert r ⊎ RenewalOf bytes cert r → CheckOf Three bytes cert r
as_check (inl h) = h
as_check (inr h) = as_checked h

-- the report of a check, by what is read over another desk that tells the same
pub checked_at : {most : Version} {bytes : Topic} {cert : List ℕ} {r : Report} (topic : Topic) (held : List ℕ → Option (List ℕ)) (v : (topic_subject topic).Value) → IsTold held topic bytes → (topic_subject topic).Reads held v → CheckOf most bytes cert r → r ≡ cert_report most ((topic_subject topic).naming v) ((topic_subject topic).problem v) ((topic_subject topic).plan v) cert
checked_at {most = most} {bytes = bytes} {cert = cert} {r = r} topic held v told reads h = one_across h.topic topic bytes h.held held (by_cert most cert) r _ h.told told (check_reported h) (inr (record { value = v; reads = reads; report = refl }))

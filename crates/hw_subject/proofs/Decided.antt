-- The bytes of a subject's inputs give one value, or one refusal, and never both.
use Rattle.std.proofs.Common.{◌≡◌, ◌∙◌, ◌++◌, ℕ, List, [], ◌∷◌, Option, Some, None, IsSome, inl, inr, refl, sym, ap}
use Rattle.hw_report.specs.Reports.{Report}
use Rattle.hw_command.specs.Scope.{Named}
use Rattle.hw_subject.specs.Subjects.{Subject, Origin, flat_text, port_of, origin_subject, repaired_by}
use Rattle.hw_subject.specs.Decided.{AllTold, IsDecided, IsReported, SubjectsDecided}
use Rattle.hw_subject.proofs.OneFlat.{no_bytes, one_problem, one_flat_refusal, flat_apart}
use Rattle.hw_subject.proofs.OnePort.{one_harbour, one_port_refusal, port_apart}
use Rattle.hw_subject.proofs.Planned.{repair_decided}

-- bytes that are told
pub told_bytes : (o : Option (List ℕ)) → IsSome o → (bytes : List ℕ) × (o ≡ Some bytes)
told_bytes None h = absurd (no_bytes h)
told_bytes (Some bytes) h = (bytes, refl)

-- the first inputs are told
told_first : (held : List ℕ → Option (List ℕ)) (all : List Named) (last : Named) → AllTold held (all ++ last ∷ []) → AllTold held all
told_first held [] last h = tt
told_first held (input ∷ more) last h = (h.0, told_first held more last h.1)

-- and so is the last
told_last : (held : List ℕ → Option (List ℕ)) (all : List Named) (last : Named) → AllTold held (all ++ last ∷ []) → IsSome (held last.name)
told_last held [] last h = h.0
told_last held (input ∷ more) last h = told_last held more last h.1

origin_decided : (a : Origin) (held : List ℕ → Option (List ℕ)) → AllTold held (origin_subject a).inputs → IsDecided (origin_subject a) held
origin_decided (flat_text name) held told = record {
  one_value = λ f g h k. one_problem (held name) f g told.0 h k;
  one_refusal = λ r t h k. one_flat_refusal (held name) r t told.0 h k;
  apart = λ f r h k. flat_apart (held name) f r told.0 h k;
}
origin_decided (port_of instance table) held told = record {
  one_value = λ v w h k. one_harbour (held instance) (held table) v w told.0 told.1.0 h k;
  one_refusal = λ r t h k. one_port_refusal (held instance) (held table) r t told.0 told.1.0 h k;
  apart = λ v r h k. port_apart (held instance) (held table) v r told.0 told.1.0 h k;
}

decided_by : (a : Origin) (plan : Option (List ℕ)) (held : List ℕ → Option (List ℕ)) → AllTold held (repaired_by (origin_subject a) plan).inputs → IsDecided (repaired_by (origin_subject a) plan) held
decided_by a None held told = origin_decided a held told
decided_by a (Some name) held told =
    let s = origin_subject a in
    let bytes = told_bytes (held name) (told_last held s.inputs _ told) in
    repair_decided s name held bytes.0 bytes.1 (origin_decided a held (told_first held s.inputs _ told))

pub subjects_decided_law : SubjectsDecided
subjects_decided_law topic held told = decided_by topic.origin topic.plan held told

-- one report, where what is held gives one value or one refusal
pub one_of : (s : Subject) (held : List ℕ → Option (List ℕ)) (made : s.Value → Report) (r t : Report) → IsDecided s held → IsReported s held made r → IsReported s held made t → r ≡ t
one_of s held made r t d (inl a) (inl b) = d.one_refusal r t a b
one_of s held made r t d (inl a) (inr b) = absurd (d.apart b.value r b.reads a)
one_of s held made r t d (inr a) (inl b) = absurd (d.apart a.value t a.reads b)
one_of s held made r t d (inr a) (inr b) = a.report ∙ ap made (d.one_value a.value b.value a.reads b.reads) ∙ sym b.report

-- What is listed of a port, in the words of its flat text and of its restrictions.
use Rattle.std.proofs.Common.{◌≡◌, ℕ, List, Option, Ok, subst, sym}
use Rattle.hw_flat.proofs.TextBack.{text_reads_back}
use Rattle.hw_flat.specs.Text.{flat_text}
use Rattle.hw_flat.specs.TextWritten.{problem_text}
use Rattle.hw_port.specs.Kept.{PortKept}
use Rattle.hw_port.specs.Whole.{Parts}
use Rattle.hw_tide.specs.Levels.{TideParts}
use Rattle.hw_port_model.specs.Flattened.{flattened}
use Rattle.hw_port_laws.proofs.Limits.{flattened_fits_law, staying_is_nothing_law}
use Rattle.hw_port_laws.proofs.Permits.{same_problem_law}
use Rattle.hw_port_named.specs.Lines.{explained}
use Rattle.hw_port_named.proofs.Numbers.{each_is_named, named_by_rule, named_means}
use Rattle.hw_report.specs.Reports.{Report, whole_text}
use Rattle.hw_subject.specs.Subjects.{port_subject}
use Rattle.hw_command_texts.specs.ExplainPort.{ExplainsTexts, IsPortExplanation}
use Rattle.hw_command_texts.specs.Flattening.{FlattensTexts, IsFlatTextOf}
use Rattle.hw_command_texts.specs.Laws.{ExplainsAsListed, FlattensAsListed}
use Rattle.hw_command_texts.specs.Listings.{Lists, flat_text_of, restriction_words}

text_is : (p : Parts) (t : TideParts) (text : List ℕ) → PortKept p → text ≡ problem_text (flattened p t) → IsFlatTextOf p t text
text_is p t text kept written = record {
  written = written;
  back = subst (λ (bytes : List ℕ). flat_text bytes ≡ Ok (flattened p t)) (sym written) (text_reads_back (flattened p t) (flattened_fits_law p t kept).0 (λ ship. staying_is_nothing_law p t ship));
  same = same_problem_law p t kept;
}

flattens : (instance table : List ℕ) (held : List ℕ → Option (List ℕ)) (r : Report) → Lists (port_subject instance table) flat_text_of held r → FlattensTexts (held instance) (held table) r
flattens instance table held (whole_text text) h = record { port = h.value.port; tide = h.value.tide; reads = h.reads; flat = text_is h.value.port h.value.tide text h.reads.kept h.is_text }
flattens instance table held r h = h

listed_flat : (instance table : List ℕ) (held : List ℕ → Option (List ℕ)) (r : Report) → FlattensTexts (held instance) (held table) r → Lists (port_subject instance table) flat_text_of held r
listed_flat instance table held (whole_text text) h = record { value = record { port = h.port; tide = h.tide }; reads = h.reads; is_text = h.flat.written }
listed_flat instance table held r h = h

pub flattens_as_listed_law : FlattensAsListed
flattens_as_listed_law instance table held r = (flattens instance table held r, listed_flat instance table held r)

explanation : (p : Parts) (t : TideParts) (text : List ℕ) → PortKept p → text ≡ explained p → IsPortExplanation p t text
explanation p t text kept written = record {
  written = written;
  each = each_is_named p t kept;
  rule = λ number line e. named_by_rule p t number line kept e;
  means = λ table number line listed e. named_means p t table number line kept listed e;
}

explains : (instance table : List ℕ) (held : List ℕ → Option (List ℕ)) (r : Report) → Lists (port_subject instance table) restriction_words held r → ExplainsTexts (held instance) (held table) r
explains instance table held (whole_text text) h = record { port = h.value.port; tide = h.value.tide; reads = h.reads; explains = explanation h.value.port h.value.tide text h.reads.kept h.is_text }
explains instance table held r h = h

listed_words : (instance table : List ℕ) (held : List ℕ → Option (List ℕ)) (r : Report) → ExplainsTexts (held instance) (held table) r → Lists (port_subject instance table) restriction_words held r
listed_words instance table held (whole_text text) h = record { value = record { port = h.port; tide = h.tide }; reads = h.reads; is_text = h.explains.written }
listed_words instance table held r h = h

pub explains_as_listed_law : ExplainsAsListed
explains_as_listed_law instance table held r = (explains instance table held r, listed_words instance table held r)

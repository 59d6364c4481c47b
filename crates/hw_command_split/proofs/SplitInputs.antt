-- A split that is read after the inputs of a subject, and the work that ends at it.
use Rattle.std.proofs.Common.{◌≡◌, ◌⊎◌, ◌++◌, ◌∙◌, ℕ, false, List, [], ◌∷◌, Option, Some, None, Ok, Err, append-nil, inl, inr, refl, sym, ap, subst}
use Rattle.std.specs.Prelude.{IfSome, Vec}
use Rattle.std.specs.declared.alloc.Global.{Global}
use Rattle.hw_model.specs.Problem.{Problem, shape_of}
use Rattle.hw_desk.specs.State.{DeskState, FeedState, IsNewDesk}
use Rattle.hw_desk.specs.declared.desk.Feed.{Feed}
use Rattle.hw_desk.specs.declared.desk.Feed.TheVariants.{Certificate, Split}
use Rattle.hw_desk.specs.declared.whole.ReadStop.{ReadStop}
use Rattle.hw_desk.specs.declared.whole.ReadStop.TheVariants as stops
use Rattle.hw_plan_texts.specs.Reading.{TextReadFails}
use Rattle.hw_plan_texts.specs.declared.fault.LineFault.{LineFault}
use Rattle.hw_plan_texts.specs.declared.fault.LineFault.TheVariants as faults
use Rattle.hw_report.specs.Reports.{Report, bad_text, too_long}
use Rattle.hw_command.specs.Inputs.{ReadsInput, report_of_stop}
use Rattle.hw_command.specs.Scope.{Named, named_feed, feed_is_among, GiveBefore, Entered}
use Rattle.hw_command.specs.Values.{IsLong}
use Rattle.hw_command.specs.Works.{StopsReading}
use Rattle.hw_command.proofs.Begun.{entered_on, input_stops, refuses}
use Rattle.hw_command.proofs.FlatForms.{of_whole}
use Rattle.hw_split_text.specs.declared.fault.SplitWord.{SplitWord}
use Rattle.hw_split_text.specs.declared.node.Node.{Node}
use Rattle.hw_split_text.specs.Splits.{IsSplit}
use Rattle.hw_split_text.specs.Text.{split_text}
use Rattle.hw_split_text.specs.Words.{split_word_text}
use Rattle.hw_subject.specs.Meanings.{judged}
use Rattle.hw_subject.specs.Reading.{ReadsSubject, searched_in}
use Rattle.hw_subject.specs.Subjects.{Subject, Origin, Topic, flat_text, port_of, origin_subject, repaired_by, topic_subject}
use Rattle.hw_subject.specs.declared.subject.Given.{Given}
use Rattle.hw_command_split.specs.Splits.{IsBadSplit, IsSplitOf, ReadsSplit, SplitIsBad, SplitStops, StopsAtSplit, report_of_split}

-- ---- the call

-- the text couldn't be read to its end
pub no_text : {f : Problem} {name : List ℕ} {x y : DeskState} (stop : ReadStop) → ReadsInput Split name x y (Err stop) → StopsAtSplit f name x y (report_of_stop Split stop)
no_text stop h = record { enters = h.enters; stop = inl (record { stop = stop; report = refl; cause = h.answer }) }

-- it has a bad line
pub bad_line : {f : Problem} {name : List ℕ} {x y : DeskState} {v : Vec ℕ Global} (fault : LineFault SplitWord) → ReadsInput Split name x y (Ok v) → TextReadFails fault (split_text (shape_of f) v.items) → StopsAtSplit f name x y (report_of_split fault)
bad_line {f = f} {name = name} {x = x} {v = v} (faults.Line number word) h fails = record {
  enters = h.enters;
  stop = inr (record {
    number = number;
    word = split_word_text word;
    report = refl;
    bad = record {
      kind = word;
      named = refl;
      reads = of_whole (λ bytes. split_text (shape_of f) bytes ≡ Err (record { number = number; word = word })) (x.held name) v.items h.answer.0 fails;
    };
    read_faults = h.answer.1;
  });
}
bad_line faults.NoMemory h fails = record { enters = h.enters; stop = inl (record { stop = stops.NoMemory; report = refl; cause = h.answer.1 }) }

-- it was read
pub reads_split : {f : Problem} {name : List ℕ} {x y : DeskState} {v : Vec ℕ Global} (nodes : List Node) → ReadsInput Split name x y (Ok v) → split_text (shape_of f) v.items ≡ Ok nodes → IsSplit (shape_of f) nodes → ReadsSplit f name x y nodes
reads_split {f = f} {name = name} {x = x} {v = v} nodes h is_text is = record {
  enters = h.enters;
  read_faults = h.answer.1;
  is = record { is = is; reads = of_whole (λ bytes. split_text (shape_of f) bytes ≡ Ok nodes) (x.held name) v.items h.answer.0 is_text };
}

-- ---- the work

-- the work that ends at the split, where other inputs were read before it
pub split_stops : {before : List Named} {Gives : Feed → Type 0} {f : Problem} {name : List ℕ} {x y z : DeskState} {r : Report} (Why : Report → Type 0) → Entered before x y → y.read_faults ≡ x.read_faults → feed_is_among before Split ≡ false → GiveBefore Gives (before ++ named_feed Split name ∷ [])
    → (IfSome (x.held name) IsLong → Why (too_long Split)) → ((number : ℕ) (word : List ℕ) → IsBadSplit (x.held name) f number word → Why (bad_text Split number word))
    → StopsAtSplit f name y z r → StopsReading (before ++ named_feed Split name ∷ []) Gives Why x z r
split_stops {before = before} {Gives = Gives} {f = f} {name = name} {x = x} {y = y} {z = z} {r = r} Why h read new give long bad k =
    let entered = entered_on before h k.enters new in
    let told = subst (λ (text : Option (List ℕ)). SplitStops text y z r ⊎ SplitIsBad f text y z r) (ap (λ held. held name) h.begins.held) k.stop in
    elim told [
      | inl stop ↦ subst (λ (r : Report). StopsReading (before ++ named_feed Split name ∷ []) Gives Why x z r) (sym stop.report) (input_stops y before Split name [] stop.stop long (sym (append-nil _)) entered give read stop.cause)
      | inr line ↦ subst (λ (r : Report). StopsReading (before ++ named_feed Split name ∷ []) Gives Why x z r) (sym line.report) (record {
        works = refuses None before (named_feed Split name) [] (bad_text Split line.number line.word) (sym (append-nil _)) refl entered give (line.read_faults ∙ read);
        early = λ e. absurd (cc);
        why = λ own. bad line.number line.word line.bad;
      })
    ]

-- ---- of a subject

-- it doesn't begin a split
pub record IsSplitless (s : Subject) : Type 0 where
  pub unread : feed_is_among s.inputs Split ≡ false
  pub certless : (name : List ℕ) → feed_is_among (s.inputs ++ named_feed Split name ∷ []) Certificate ≡ false
  pub given : (held : List ℕ → Option (List ℕ)) → s.Gives held Split → ⊥
  pub bad : (held : List ℕ → Option (List ℕ)) (number : ℕ) (word : List ℕ) → s.Refuses held (bad_text Split number word) → ⊥
  pub long : (held : List ℕ → Option (List ℕ)) → s.Refuses held (too_long Split) → ⊥

splitless_by : (a : Origin) (plan : Option (List ℕ)) → IsSplitless (repaired_by (origin_subject a) plan)
splitless_by (flat_text text) None = record { unread = refl; certless = λ name. refl; given = λ held h. h; bad = λ held number word h. h; long = λ held h. h }
splitless_by (flat_text text) (Some plan) = record { unread = refl; certless = λ name. refl; given = λ held h. h; bad = λ held number word h. h; long = λ held h. h }
splitless_by (port_of instance table) None = record { unread = refl; certless = λ name. refl; given = λ held h. h; bad = λ held number word h. h; long = λ held h. h }
splitless_by (port_of instance table) (Some plan) = record { unread = refl; certless = λ name. refl; given = λ held h. h; bad = λ held number word h. h; long = λ held h. h }

pub splitless : (topic : Topic) → IsSplitless (topic_subject topic)
splitless topic = splitless_by topic.origin topic.plan

-- ---- what was read

-- the split is that of the bytes held at first
pub split_of_judged : {s : Subject} {name : List ℕ} {x y z : DeskState} {given : Given} {nodes : List Node} → (h : ReadsSubject s x y given) → ReadsSplit (searched_in given.flat given.repair) name y z nodes → IsSplitOf (x.held name) (judged s h.value) nodes
split_of_judged {name = name} {x = x} {given = given} {nodes = nodes} h k = subst (λ (f : Problem). IsSplitOf (x.held name) f nodes) h.searched (subst (λ (told : Option (List ℕ)). IsSplitOf told (searched_in given.flat given.repair) nodes) (ap (λ held. held name) h.entered.begins.held) k.is)

-- all inputs before the certificate were begun
pub both_entered : {name : List ℕ} {x y z : DeskState} {given : Given} {nodes : List Node} {f : Problem} (topic : Topic) → ReadsSubject (topic_subject topic) x y given → ReadsSplit f name y z nodes → Entered ((topic_subject topic).inputs ++ named_feed Split name ∷ []) x z
both_entered topic h k = entered_on (topic_subject topic).inputs h.entered k.enters (splitless topic).unread

-- the split isn't begun yet
pub unread_split : {x y : DeskState} {given : Given} (topic : Topic) → IsNewDesk x → ReadsSubject (topic_subject topic) x y given → (y.feeds Split).begun ≡ false
unread_split topic new h = ap (λ (feed : FeedState). feed.begun) (h.entered.begins.others Split (splitless topic).unread) ∙ new.feeds Split

-- nor the certificate after it
pub unread_cert : {name : List ℕ} {x y z : DeskState} {given : Given} {nodes : List Node} {f : Problem} (topic : Topic) → IsNewDesk x → ReadsSubject (topic_subject topic) x y given → ReadsSplit f name y z nodes → (z.feeds Certificate).begun ≡ false
unread_cert {name = name} topic new h k = ap (λ (feed : FeedState). feed.begun) ((both_entered topic h k).begins.others Certificate ((splitless topic).certless name)) ∙ new.feeds Certificate

-- The law of subjects.
use Rattle.std.specs.Prelude.{ℕ, List, Option}
use Rattle.hw_subject.specs.Meanings.{IsModelled}
use Rattle.hw_subject.specs.Subjects.{Topic, topic_subject}

-- what is read of a subject is modelled by the problem that is searched
abbrev pub SubjectsModelled : Type 0
SubjectsModelled = (topic : Topic) (held : List ℕ → Option (List ℕ)) (v : (topic_subject topic).Value) → (topic_subject topic).Reads held v → IsModelled (topic_subject topic) v

-- Rooms that stay closed.
use Rattle.std.proofs.Common.{◌≡◌, ◌∙◌, ◌++◌, ◌+◌, ◌<◌, ℕ, Bool, true, false, ◌||◌, List, [], ◌∷◌, Option, None, Some, Result, Ok, Err, get_or, length, take, refl, sym, ap, subst}
use Rattle.std.specs.Prelude.{All, IfSome, Vec, option_and_then}
use Rattle.std.specs.List.{cons_option, list_any}
use Rattle.std.proofs.lemmas.List.Elements.{All-more, All-nil}
use Rattle.std.proofs.lemmas.List.Folds.{list_any-append}
use Rattle.std.specs.declared.alloc.Global.{Global}
use Rattle.hw_model.specs.declared.lit.Lit.{Lit}
use Rattle.hw_model.specs.Problem.{Problem}
use Rattle.hw_model.specs.Rooms.{RoomModel}
use Rattle.hw_cert_lines.specs.declared.line.Line.{Line}
use Rattle.hw_cert_lines.specs.Lines.{clause_of, clauses_of, is_closed, is_end}
use Rattle.hw_cert_lines.specs.Valid.{LineFits}
use Rattle.hw_cert_lines.proofs.Pushed.{or_false}
use Rattle.hw_cert_course.specs.Courses.{AddsClause, ExtendsBy}
use Rattle.hw_cert_course.specs.Raising.{KeepsClause, KeepsFit}
use Rattle.hw_cert_course.specs.declared.going_on.Course.{Course}
use Rattle.hw_cert_course.specs.declared.stop.CourseStop.{CourseStop}
use Rattle.hw_cert_course.proofs.Extended.{extends_on}
use Rattle.hw_cert_closes.specs.Closing.{are_false, closes_room, is_clause_false}
use Rattle.hw_cert_closes.proofs.Falsified.{still_closes}
use Rattle.hw_cert_join.specs.declared.junction.Junction.{Junction}
use Rattle.hw_cert_join.specs.Joining.{ClosesWhat, LeavesNoneOpen, JunctionAdds, TakesOver, TakesOverEach, TakingMeets}

or_true : (b : Bool) → (b || true) ≡ true
or_true true = refl
or_true false = refl

-- ---- by the clauses alone

abbrev any_clause : RoomModel → List (List Lit) → Bool
any_clause room clauses = list_any (are_false room) clauses

one_more : (room : RoomModel) (clause : Option (List Lit)) (clauses : List (List Lit)) → (is_clause_false room clause || any_clause room clauses) ≡ any_clause room (cons_option clause clauses)
one_more room None clauses = refl
one_more room (Some clause) clauses = refl

by_clauses : (room : RoomModel) (all : List Line) → closes_room room all ≡ any_clause room (clauses_of all)
by_clauses room [] = refl
by_clauses room (line ∷ more) = ap (λ (b : Bool). is_clause_false room (clause_of line) || b) (by_clauses room more) ∙ one_more room (clause_of line) (clauses_of more)

-- ---- one after another

closes_after : (room : RoomModel) (before more : List Line) → closes_room room more ≡ true → closes_room room (before ++ more) ≡ true
closes_after room before more e = list_any-append (λ (line : Line). is_clause_false room (clause_of line)) before more ∙ ap (λ (b : Bool). closes_room room before || b) e ∙ or_true (closes_room room before)

-- what a course closes it closes with more lines
pub stays_closed : {a b : Course} (room : RoomModel) → ExtendsBy a b → closes_room room a.lines.items ≡ true → closes_room room b.lines.items ≡ true
stays_closed {a = a} {b = b} room h e = still_closes room b.lines.items a.lines.items h.more h.adds.parts e

end_closes : (room : RoomModel) (clause : Option (List Lit)) → is_end clause ≡ true → is_clause_false room clause ≡ true
end_closes room None e = absurd cc
end_closes room (Some []) e = refl
end_closes room (Some (lit ∷ more)) e = absurd cc

either : (a b : Bool) (c d : Bool) → (a ≡ true → c ≡ true) → (b ≡ true → d ≡ true) → (a || b) ≡ true → (c || d) ≡ true
either true b c d f g e = ap (λ (x : Bool). x || d) (f refl)
either false b c d f g e = ap (λ (x : Bool). c || x) (g e) ∙ or_true c

-- a line without literals closes each room
pub closes_all : (all given : List Line) → is_closed all ≡ true → ClosesWhat all given
closes_all [] given e room h = absurd cc
closes_all (line ∷ more) given e room h = either (is_end (clause_of line)) (is_closed more) (is_clause_false room (clause_of line)) (closes_room room more) (end_closes room (clause_of line)) (λ e. closes_all more given e room h) e

-- ---- a line that is taken

line_covers : {a b : Course} (line : Line) → (h : AddsClause a b (clause_of line)) → ClosesWhat b.lines.items (line ∷ [])
line_covers {a = a} {b = b} line h room e =
    let same : closes_room room h.more ≡ closes_room room (line ∷ []) = by_clauses room h.more ∙ ap (any_clause room) h.clauses ∙ sym (by_clauses room (line ∷ [])) in
    ap (closes_room room) h.adds.parts ∙ closes_after room a.lines.items h.more (same ∙ e)

-- by what a call did
pub by_adds : (junction : Junction) (line : Line) (clause : Option (List Lit)) (result : Result Junction CourseStop) → clause_of line ≡ clause → JunctionAdds junction clause result → TakingMeets junction (line ∷ []) result
by_adds junction line clause (Ok after) is h =
    let adds = subst (AddsClause junction.course after.course) (sym is) h in
    record { extends = record { more = adds.more; adds = adds.adds }; closes = line_covers line adds }
by_adds junction line clause (Err stop) is h = h

pub adds_as : (junction : Junction) (clause other : Option (List Lit)) (result : Result Junction CourseStop) → clause ≡ other → JunctionAdds junction clause result → JunctionAdds junction other result
adds_as junction clause other result same h = subst (λ (o : Option (List Lit)). JunctionAdds junction o result) same h

pub kept_clause : (line : Line) (found : Option Line) → KeepsClause line found → option_and_then clause_of found ≡ clause_of line
kept_clause line None e = sym e
kept_clause line (Some raised) e = e

pub kept_fit : (f : Problem) (line : Line) (found : Option Line) → IfSome found (KeepsFit line) → LineFits f line → IfSome found (LineFits f)
kept_fit f line None keeps fits = tt
kept_fit f line (Some raised) keeps fits = keeps f fits

-- nothing is open, and none is taken
pub none_taken : (junction : Junction) (given : List Line) → ExtendsBy junction.course junction.course → is_closed junction.course.lines.items ≡ true → TakesOver junction.course junction.course given
none_taken junction given h closed = record { extends = h; closes = closes_all junction.course.lines.items given closed }

-- ---- the lines of a certificate

-- some of them were taken, and these are left
pub record CertAlong (entry now : Course) (cert left : List Line) : Type 0 where
  pub extends : ExtendsBy entry now
  pub closes : (room : RoomModel) → closes_room room cert ≡ true → (closes_room room now.lines.items || closes_room room left) ≡ true

pub cert_start : {entry now : Course} (cert : List Line) → ExtendsBy entry now → CertAlong entry now cert cert
cert_start {now = now} cert h = record { extends = h; closes = λ room e. ap (λ (b : Bool). closes_room room now.lines.items || b) e ∙ or_true (closes_room room now.lines.items) }

either_of : (a b c d : Bool) → (a ≡ true → d ≡ true) → (b ≡ true → d ≡ true) → (a || (b || c)) ≡ true → (d || c) ≡ true
either_of true b c d f g e = ap (λ (x : Bool). x || c) (f refl)
either_of false true c d f g e = ap (λ (x : Bool). x || c) (g refl)
either_of false false c d f g e = ap (λ (x : Bool). d || x) e ∙ or_true d

pub cert_next : {entry now after : Course} {cert left next : List Line} {line : Line} → CertAlong entry now cert left → left ≡ line ∷ next → TakesOver now after (line ∷ []) → CertAlong entry after cert next
cert_next {now = now} {after = after} {next = next} {line = line} h cut k = record {
  extends = extends_on h.extends k.extends;
  closes = λ room e.
      let either_way = subst (λ (ls : List Line). (closes_room room now.lines.items || closes_room room ls) ≡ true) cut (h.closes room e) in
      either_of (closes_room room now.lines.items) (is_clause_false room (clause_of line)) (closes_room room next) (closes_room room after.lines.items) (stays_closed room k.extends) (λ yes_here. k.closes room (ap (λ (b : Bool). b || false) yes_here)) either_way;
}

pub cert_end : {entry now : Course} {cert left : List Line} → CertAlong entry now cert left → left ≡ [] → TakesOver entry now cert
cert_end {now = now} h none = record {
  extends = h.extends;
  closes = λ room e. sym (or_false (closes_room room now.lines.items)) ∙ subst (λ (ls : List Line). (closes_room room now.lines.items || closes_room room ls) ≡ true) none (h.closes room e);
}

-- ---- the certificates

pub each_stays : {a b : Course} (certs : List (Vec Line Global)) → ExtendsBy a b → All (λ cert. ClosesWhat a.lines.items cert.items) certs → All (λ cert. ClosesWhat b.lines.items cert.items) certs
each_stays certs h closes = λ i d lt room e. stays_closed room h (closes i d lt room e)

pub certs_start : {entry now : Course} → ExtendsBy entry now → TakesOverEach entry now []
certs_start {now = now} h = record { extends = h; closes = All-nil (λ (cert : Vec Line Global). ClosesWhat now.lines.items cert.items) }

pub certs_next : {entry now after : Course} (certs : List (Vec Line Global)) (i : ℕ) (cert : Vec Line Global) → i < length certs → TakesOverEach entry now (take i certs) → TakesOver now after (get_or certs i cert).items → TakesOverEach entry after (take (i + 1) certs)
certs_next {after = after} certs i cert lt h k = record {
  extends = extends_on h.extends k.extends;
  closes = All-more (λ (cert : Vec Line Global). ClosesWhat after.lines.items cert.items) certs i cert lt (each_stays (take i certs) k.extends h.closes) k.closes;
}

-- ---- the line without literals

end_more : (clause : Option (List Lit)) (clauses : List (List Lit)) → (is_end clause || list_any (λ lits. is_end (Some lits)) clauses) ≡ list_any (λ lits. is_end (Some lits)) (cons_option clause clauses)
end_more None clauses = refl
end_more (Some clause) clauses = refl

ends_by_clauses : (all : List Line) → is_closed all ≡ list_any (λ lits. is_end (Some lits)) (clauses_of all)
ends_by_clauses [] = refl
ends_by_clauses (line ∷ more) = ap (λ (b : Bool). is_end (clause_of line) || b) (ends_by_clauses more) ∙ end_more (clause_of line) (clauses_of more)

ends_after : (before more : List Line) → is_closed more ≡ true → is_closed (before ++ more) ≡ true
ends_after before more e = list_any-append (λ (line : Line). is_end (clause_of line)) before more ∙ ap (λ (b : Bool). is_closed before || b) e ∙ or_true (is_closed before)

pub ended : {a b : Course} → AddsClause a b (Some []) → LeavesNoneOpen a b
ended {a = a} {b = b} h = record {
  extends = record { more = h.more; adds = h.adds };
  closed = ap is_closed h.adds.parts ∙ ends_after a.lines.items h.more (ends_by_clauses h.more ∙ ap (list_any (λ (lits : List Lit). is_end (Some lits))) h.clauses);
}

-- Places of sources are added to the lists of what these speak of.
use Rattle.std.proofs.Common.{◌≡◌, ◌≢◌, ℕ, ◌+◌, ◌*◌, ◌<◌, Bool, true, false, ◌&&◌, ◌||◌, List, [], ◌∷◌, ◌++◌, length, get_or, refl, sym, ap, ◌∙◌, subst, arith, append-nil, take, zero-add}
use Rattle.std.specs.Prelude.{◌==◌, slice_set, AllPairs, Contains, filter, slice_get, Some}
use Rattle.std.specs.List.{list_any, range_with_len}
use Rattle.std.proofs.lemmas.Bool.{and_parts, and_from, eqb-true, eq-eqb}
use Rattle.std.proofs.lemmas.Bool.Decides.{nat_tests}
use Rattle.std.proofs.lemmas.List.{get_or-set_same, get_or-set_other, get_or_default, get_or-take, length-take}
use Rattle.std.proofs.lemmas.List.Folds.{list_any_more, Any-from_list_any}
use Rattle.std.proofs.lemmas.List.FromFn.{length-range_with_len, get_or-range_with_len}
use Rattle.std.proofs.lemmas.Option.{slice_get_within}
use Rattle.hw_search_laws.proofs.Backs.{contains_any, in_filter, any_contains}
use Rattle.std.proofs.lemmas.Nat.{mul-add-lt, same_from_place}
use Rattle.hw_lemmas.proofs.Lists.{filter_range}
use Rattle.hw_model.specs.declared.rule.Job.{Job}
use Rattle.hw_model.specs.declared.lit.Lit.{Lit}
use Rattle.hw_model.specs.declared.lit.Lit.TheVariants as lits
use Rattle.hw_model.specs.declared.source.Source.{Source}
use Rattle.hw_model.specs.Problem.{Problem}
use Rattle.hw_model.specs.Lits.{IsLitOf}
use Rattle.hw_model.specs.Quiet.{names_ship, names_order, names_lit}
use Rattle.hw_search_sources.specs.Speaking.{SpeakersModel, ship_places, pair_places, speakers_of, source_names_literal, added, AddsPlace, TellsSpeakers}

-- a list that was added to has one more place
one_set : (lists : List (List ℕ)) (at i place : ℕ) (before after : List ℕ) (b : Bool) → at < length lists → before ≡ get_or lists at before → after ≡ before ++ place ∷ [] → ((b ≡ true) → i ≡ at) → ((b ≡ false) → i ≢ at) → get_or (slice_set lists at after) i [] ≡ get_or lists i [] ++ added b place
one_set lists at i place before after true lt was e same other =
    let h : i ≡ at = same refl in
    let a : get_or (slice_set lists at after) at [] ≡ after = get_or-set_same lists at after [] lt in
    let c : get_or lists at [] ≡ before = get_or_default lists at [] before lt ∙ sym was in
    let d : get_or (slice_set lists at after) at [] ≡ get_or lists at [] ++ place ∷ [] = a ∙ e ∙ ap (λ xs. xs ++ place ∷ []) (sym c) in
    subst (λ j. get_or (slice_set lists at after) j [] ≡ get_or lists j [] ++ place ∷ []) (sym h) d
one_set lists at i place before after false lt was e same other = get_or-set_other lists at i after [] (other refl) ∙ sym (append-nil (get_or lists i []))

pub pair_added : (old : SpeakersModel) (v w place : ℕ) (before after : List ℕ) → length old.by_pair ≡ old.ships * old.ships → v < w → w < old.ships → before ≡ get_or old.by_pair (v * old.ships + w) before → after ≡ before ++ place ∷ []
    → AddsPlace place (λ u. false) (λ a b. a == v && b == w) old (record old { by_pair = slice_set old.by_pair (v * old.ships + w) after })
pair_added old v w place before after long up inside was e =
    let lt : v * old.ships + w < length old.by_pair = omega (arith, long, mul-add-lt v old.ships w old.ships (omega (arith, up, inside)) inside) in
    record {
      same_ships = refl;
      ships = λ u h. sym (append-nil (ship_places old u));
      pairs = λ a b ab bs. one_set old.by_pair (v * old.ships + w) (a * old.ships + b) place before after (a == v && b == w) lt was e
          (λ t. let p = and_parts (a == v) (b == w) t in
          let x : a ≡ v = eqb-true a v p.0 in
          let y : b ≡ w = eqb-true b w p.1 in
          ap (λ n. n * old.ships + b) x ∙ ap (λ n. v * old.ships + n) y)
          (λ f same. let p = same_from_place a b v w old.ships bs inside same in
          let t : (a == v && b == w) ≡ true = and_from (a == v) (b == w) (eq-eqb a v p.0) (eq-eqb b w p.1) in
          absurd (let z : true ≡ false = sym t ∙ f in cc));
    }

-- ---- one after another

-- no ship and no pair is added to twice
added_both : (a b : Bool) (place : ℕ) (xs : List ℕ) → ((a ≡ true) → (b ≡ true) → ⊥) → (xs ++ added a place) ++ added b place ≡ xs ++ added (a || b) place
added_both true true place xs apart = absurd (apart refl refl)
added_both true false place xs apart = append-nil (xs ++ place ∷ [])
added_both false true place xs apart = ap (λ ys. ys ++ place ∷ []) (append-nil xs)
added_both false false place xs apart = append-nil (xs ++ [])

pub then_added : (place : ℕ) (n m : ℕ → Bool) (o q : ℕ → ℕ → Bool) (a b c : SpeakersModel) → AddsPlace place n o a b → AddsPlace place m q b c → ((u : ℕ) → n u ≡ true → m u ≡ true → ⊥) → ((v w : ℕ) → o v w ≡ true → q v w ≡ true → ⊥) → AddsPlace place (λ u. n u || m u) (λ v w. o v w || q v w) a c
then_added place n m o q a b c first second ships pairs = record {
  same_ships = second.same_ships ∙ first.same_ships;
  ships = λ u h. second.ships u (omega (arith, h, first.same_ships)) ∙ ap (λ xs. xs ++ added (m u) place) (first.ships u h) ∙ added_both (n u) (m u) place (ship_places a u) (ships u);
  pairs = λ v w vw h. second.pairs v w vw (omega (arith, h, first.same_ships)) ∙ ap (λ xs. xs ++ added (q v w) place) (first.pairs v w vw h) ∙ added_both (o v w) (q v w) place (pair_places a v w) (pairs v w);
}

-- the same tests, spelled otherwise
pub same_added : (place : ℕ) (n m : ℕ → Bool) (o q : ℕ → ℕ → Bool) (a b : SpeakersModel) → AddsPlace place n o a b → ((u : ℕ) → u < a.ships → n u ≡ m u) → ((v w : ℕ) → o v w ≡ q v w) → AddsPlace place m q a b
same_added place n m o q a b h e f = record {
  same_ships = h.same_ships;
  ships = λ u lt. h.ships u lt ∙ ap (λ t. ship_places a u ++ added t place) (e u lt);
  pairs = λ v w vw lt. h.pairs v w vw lt ∙ ap (λ t. pair_places a v w ++ added t place) (f v w);
}

-- the same where a value's fields are known by its view
pub pair_pushed : (inside old : SpeakersModel) (v w place : ℕ) (before after : List ℕ) → inside ≡ old → length inside.by_pair ≡ inside.ships * inside.ships → v < w → w < old.ships → before ≡ get_or inside.by_pair (v * inside.ships + w) before → after ≡ before ++ place ∷ []
    → AddsPlace place (λ u. false) (λ a b. a == v && b == w) old (record inside { by_pair = slice_set inside.by_pair (v * inside.ships + w) after })
pair_pushed inside old v w place before after same long up lt was e =
    let P : SpeakersModel → Type 0 = λ m. w < m.ships → AddsPlace place (λ u. false) (λ a b. a == v && b == w) m (record inside { by_pair = slice_set inside.by_pair (v * inside.ships + w) after }) in
    subst P same (λ k. pair_added inside v w place before after long up k was e) lt

-- ---- job after job

abbrev pub of_job : ℕ → Job → Bool
of_job u job = job.ship == u

-- the ship of a job is none of an earlier one
apart_jobs : (jobs : List Job) (u i : ℕ) (d : Job) → i < length jobs → AllPairs (λ (x y : Job). x.ship < y.ship) jobs → list_any (of_job u) (take i jobs) ≡ true → (u == (get_or jobs i d).ship) ≡ true → ⊥
apart_jobs jobs u i d lt up e f =
    let a = Any-from_list_any (of_job u) (take i jobs) e in
    let k = a.0 in
    let within : k < i = omega (arith, a.2, length-take i jobs) in
    let same : a.1 ≡ get_or jobs k d = sym a.3 ∙ get_or-take i jobs k a.1 within ∙ get_or_default jobs k a.1 d (omega (arith, within, lt)) in
    let one : a.1.ship ≡ u = eqb-true a.1.ship u a.4 in
    let two : u ≡ (get_or jobs i d).ship = eqb-true u (get_or jobs i d).ship f in
    let less : (get_or jobs k d).ship < (get_or jobs i d).ship = up k i d within lt in
    let three : a.1.ship ≡ (get_or jobs k d).ship = ap (λ (j : Job). j.ship) same in
    omega (arith, one, two, less, three)

pub next_job : (place i : ℕ) (jobs : List Job) (d : Job) (a b c : SpeakersModel) → i < length jobs → AllPairs (λ (x y : Job). x.ship < y.ship) jobs → AddsPlace place (λ u. list_any (of_job u) (take i jobs)) (λ v w. false) a b → AddsPlace place (λ u. u == (get_or jobs i d).ship) (λ v w. false) b c → AddsPlace place (λ u. list_any (of_job u) (take (i + 1) jobs)) (λ v w. false) a c
next_job place i jobs d a b c lt up first second =
    same_added place (λ u. list_any (of_job u) (take i jobs) || u == (get_or jobs i d).ship) (λ u. list_any (of_job u) (take (i + 1) jobs)) (λ v w. false) (λ v w. false) a c
    (then_added place (λ u. list_any (of_job u) (take i jobs)) (λ u. u == (get_or jobs i d).ship) (λ v w. false) (λ v w. false) a b c first second
    (λ u x y. apart_jobs jobs u i d lt up x y)
    (λ v w x y. let z : false ≡ true = x in cc))
    (λ u h. ap (λ t. list_any (of_job u) (take i jobs) || t) (turned u (get_or jobs i d).ship) ∙ sym (list_any_more (of_job u) jobs i d lt)) (λ v w. refl)
  where
    turned : (x y : ℕ) → (x == y) ≡ (y == x)
    turned x y = grind (arith, nat_tests)

-- ---- source after source

-- what was listed of the first n sources
abbrev pub ListedUpto : Problem → List Source → ℕ → SpeakersModel → Type 0
ListedUpto f sources n s = (lit : Lit) → IsLitOf f.ships lit → speakers_of s lit ≡ filter (λ place. source_names_literal f lit (slice_get sources place)) (range_with_len 0 n)

one_listed : (f : Problem) (source : Source) (place : ℕ) (old new : SpeakersModel) → old.ships ≡ f.ships → AddsPlace place (names_ship f source) (names_order f source) old new → (lit : Lit) → IsLitOf f.ships lit → speakers_of new lit ≡ speakers_of old lit ++ added (names_lit f source lit) place
one_listed f source place old new same h (lits.AtOrAfter ship slot) fits = h.ships ship (omega (arith, same, fits.0))
one_listed f source place old new same h (lits.Before ship slot) fits = h.ships ship (omega (arith, same, fits.0))
one_listed f source place old new same h (lits.First v w) fits = h.pairs v w fits.0 (omega (arith, same, fits.1))
one_listed f source place old new same h (lits.NotFirst v w) fits = h.pairs v w fits.0 (omega (arith, same, fits.1))

pub next_listed : (f : Problem) (sources : List Source) (n place : ℕ) (source : Source) (old new : SpeakersModel) → old.ships ≡ f.ships → place ≡ n → slice_get sources n ≡ Some source → ListedUpto f sources n old → AddsPlace place (names_ship f source) (names_order f source) old new → ListedUpto f sources (n + 1) new
next_listed f sources n place source old new same here at upto adds lit fits =
    let h : AddsPlace n (names_ship f source) (names_order f source) old new = subst (λ (k : ℕ). AddsPlace k (names_ship f source) (names_order f source) old new) here adds in
    let p : ℕ → Bool = λ place. source_names_literal f lit (slice_get sources place) in
    let now : p n ≡ names_lit f source lit = ap (source_names_literal f lit) at in
    let step : filter p (range_with_len 0 (n + 1)) ≡ filter p (range_with_len 0 n) ++ added (p n) n = filter_range p n in
    one_listed f source n old new same h lit fits ∙ ap (λ xs. xs ++ added (names_lit f source lit) n) (upto lit fits) ∙ ap (λ t. filter p (range_with_len 0 n) ++ added t n) (sym now) ∙ sym step

contains_filter : (p : ℕ → Bool) (xs : List ℕ) (n : ℕ) → p n ≡ true → Contains xs n → Contains (filter p xs) n
contains_filter p xs n e h = any_contains (filter p xs) n (in_filter p xs n e (contains_any xs n h))

-- a source that speaks of what a literal speaks of is listed
pub all_told : (f : Problem) (sources : List Source) (s : SpeakersModel) → s.ships ≡ f.ships → ListedUpto f sources (length sources) s → TellsSpeakers f sources s
all_told f sources s same listed = record {
  same_ships = same;
  each = λ lit place source fits at names.
      let p : ℕ → Bool = λ place. source_names_literal f lit (slice_get sources place) in
      let says : p place ≡ true = ap (source_names_literal f lit) at ∙ names in
      let inside : place < length sources = slice_get_within sources place source at in
      let here : Contains (range_with_len 0 (length sources)) place = (place, omega (arith, inside, length-range_with_len 0 (length sources)), get_or-range_with_len 0 (length sources) place place inside ∙ zero-add place) in
      subst (λ xs. Contains xs place) (sym (listed lit fits)) (contains_filter p (range_with_len 0 (length sources)) place says here);
}

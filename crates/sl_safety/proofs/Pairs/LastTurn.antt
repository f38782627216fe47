-- The last call of a lease that shows a turn of the own pair, in its trace and among its machine's calls.
use Rattle.sl_area.specs.AreaSizes.{Layout}
use Rattle.sl_area.specs.Pairs.{pair_read}
use Rattle.sl_safety.proofs.Resources.LastBlock.{kept_calls}
use Rattle.sl_safety.proofs.Resources.NewestCalls.{calls_below}
use Rattle.sl_words.proofs.Lists.{contains_cases, contains_first, contains_more}
use Rattle.sl_words.proofs.Numbers.{below_next, refl_le}
use Rattle.sl_words.proofs.Options.{mapped_value}
use Rattle.sl_run.specs.Worlds.{Course, Daemon}
use Rattle.sl_run_law.specs.Course.CallStamps.{IsCourseOf, Pairwise}
use Rattle.sl_run_law.specs.Moment.Orders.{CallsFall}
use Rattle.sl_sector.specs.declared.sector.PairBlock.{PairBlock}
use Rattle.sl_trace.specs.Leases.{base_turn, blocks_bytes, turn_shown, turn_written}
use Rattle.sl_trace.specs.Traces.{Submitted, is_answered_ok}
use Rattle.sl_trace.specs.declared.effects.Call.{Call}
use Rattle.sl_words.proofs.CaseLaws.{none_some, true_is_false}
use Rattle.sl_words.proofs.WordLaws.{choose_some}
use Rattle.sl_words.specs.Words.{choose}
use Rattle.std.proofs.Common.{ap, arith, inl, inr, refl, subst, sym, ◌∙◌}
use Rattle.std.specs.Prelude.{Bool, Contains, List, None, Option, Some, [], cond, false, option_and_then, option_map, true, ℕ, ◌+◌, ◌∷◌, ◌≡◌, ◌≤◌}

-- ---- what shows a turn

-- An ok of a block's write, or a read that gave the pair.
pub data ShowsTurn (g : Layout) (id : ℕ) (m : Submitted) (t : ℕ) : Type 0 where
  By_write : turn_written m ≡ Some t → is_answered_ok m ≡ true → ShowsTurn g id m t
  By_read : (bs : List ℕ) → blocks_bytes g m ≡ Some bs → (q : PairBlock) → pair_read g bs id ≡ Some q → q.turn ≡ t → ShowsTurn g id m t

read_by : (g : Layout) (id : ℕ) (m : Submitted) (t : ℕ) (o : Option (List ℕ)) → blocks_bytes g m ≡ o
    → option_and_then (λ bs. option_map (λ (p : PairBlock). p.turn) (pair_read g bs id)) o ≡ Some t → ShowsTurn g id m t
read_by g id m t None is h = absurd (none_some t h)
read_by g id m t (Some bs) is h = let f = mapped_value (λ (p : PairBlock). p.turn) (pair_read g bs id) t h in By_read bs is f.0 f.1 f.2

shows_by : (g : Layout) (id : ℕ) (m : Submitted) (t : ℕ) (o : Option ℕ) (b : Bool) → turn_written m ≡ o
    → elim o as (λ z. Option ℕ) [
      | Some u ↦ choose (is_answered_ok m) u
      | None ↦ elim b as (λ z. Option ℕ) [ false ↦ None | true ↦ option_and_then (λ bs. option_map (λ (p : PairBlock). p.turn) (pair_read g bs id)) (blocks_bytes g m) ]
    ] ≡ Some t → ShowsTurn g id m t
shows_by g id m t (Some u) b is h = let c = choose_some (is_answered_ok m) u t h in By_write (is ∙ ap (λ n. Some n) c.1) c.0
shows_by g id m t None false is h = absurd (none_some t h)
shows_by g id m t None true is h = read_by g id m t (blocks_bytes g m) refl h

pub shows_turn : (g : Layout) (id : ℕ) (m : Submitted) (t : ℕ) → turn_shown g id m ≡ Some t → ShowsTurn g id m t
shows_turn g id m t h = shows_by g id m t (turn_written m) g.paired refl h

-- .. and the other way.
by_write : (m : Submitted) (t : ℕ) (rest : Option ℕ) (o : Option ℕ) → o ≡ Some t → is_answered_ok m ≡ true
    → elim o as (λ z. Option ℕ) [ Some u ↦ choose (is_answered_ok m) u | None ↦ rest ] ≡ Some t
by_write m t rest o is ok =
    ap (λ z. elim z as (λ y. Option ℕ) [ Some u ↦ choose (is_answered_ok m) u | None ↦ rest ]) is ∙ ap (λ b. choose b t) ok

pub write_shows : (g : Layout) (id : ℕ) (m : Submitted) (t : ℕ) → turn_written m ≡ Some t → is_answered_ok m ≡ true → turn_shown g id m ≡ Some t
write_shows g id m t is ok =
    by_write m t (elim g.paired as (λ z. Option ℕ) [
      | false ↦ None
      | true ↦ option_and_then (λ bs. option_map (λ (p : PairBlock). p.turn) (pair_read g bs id)) (blocks_bytes g m)
    ]) (turn_written m) is ok

pub read_shows : (g : Layout) (id : ℕ) (m : Submitted) (bs : List ℕ) (q : PairBlock) → g.paired ≡ true → turn_written m ≡ None → blocks_bytes g m ≡ Some bs → pair_read g bs id ≡ Some q
    → turn_shown g id m ≡ Some q.turn
read_shows g id m bs q paired none told gives =
    ap (λ o. elim o as (λ z. Option ℕ) [
      | Some u ↦ choose (is_answered_ok m) u
      | None ↦ elim g.paired as (λ z. Option ℕ) [ false ↦ None | true ↦ option_and_then (λ bs. option_map (λ (p : PairBlock). p.turn) (pair_read g bs id)) (blocks_bytes g m) ]
    ]) none
    ∙ ap (λ b. elim b as (λ z. Option ℕ) [ false ↦ None | true ↦ option_and_then (λ bs. option_map (λ (p : PairBlock). p.turn) (pair_read g bs id)) (blocks_bytes g m) ]) paired
    ∙ ap (option_and_then (λ bs. option_map (λ (p : PairBlock). p.turn) (pair_read g bs id))) told ∙ ap (option_map (λ (p : PairBlock). p.turn)) gives

-- ---- the last one

-- A call that shows one, as any of these has it.
abbrev pub ShowsAny : Layout → ℕ → Daemon → List Submitted → Course → Type 0
ShowsAny g id d whole e = (m : Submitted) → Contains whole m → IsCourseOf d e m → turn_shown g id m ≡ None → ⊥

pub record LastTurn (g : Layout) (id : ℕ) (d : Daemon) (whole : List Submitted) (T : Call → Bool) (cs : List Course) (t : ℕ) : Type 0 where
  pub course : Course
  pub call : Submitted
  pub has : Contains cs course
  pub inside : Contains whole call
  pub pair : IsCourseOf d course call
  pub passes : T course.call ≡ true
  pub shown : turn_shown g id call ≡ Some t
  pub newest : (e : Course) → Contains cs e → T e.call ≡ true → ShowsAny g id d whole e → e.made.step ≤ course.made.step

one_more : (g : Layout) (id : ℕ) (d : Daemon) (whole : List Submitted) (T : Call → Bool) (c : Course) (cs : List Course) (t : ℕ) → (T c.call ≡ true → ShowsAny g id d whole c → ⊥)
    → LastTurn g id d whole T cs t → LastTurn g id d whole T (c ∷ cs) t
one_more g id d whole T c cs t never l =
    record {
      course = l.course;
      call = l.call;
      has = contains_more c cs l.course l.has;
      inside = l.inside;
      pair = l.pair;
      passes = l.passes;
      shown = l.shown;
      newest = λ e has passes shows. elim (contains_cases c cs e has) as (λ z. e.made.step ≤ l.course.made.step) [
        | inl same ↦ absurd (never (ap (λ (x : Course). T x.call) same ∙ passes) (subst (λ (x : Course). ShowsAny g id d whole x) (sym same) shows))
        | inr more ↦ l.newest e more passes shows
      ];
    }

shown_by : (g : Layout) (id : ℕ) (d : Daemon) (whole : List Submitted) (T : Call → Bool) (c : Course) (cs : List Course) (m : Submitted) (rest t : ℕ) (o : Option ℕ) → turn_shown g id m ≡ o
    → T c.call ≡ true → Contains whole m → IsCourseOf d c m → CallsFall (c.made.step + 1) cs → elim o as (λ z. ℕ) [ Some u ↦ u | None ↦ rest ] ≡ t
    → (rest ≡ t → LastTurn g id d whole T cs t) → LastTurn g id d whole T (c ∷ cs) t
shown_by g id d whole T c cs m rest t None shown passes inside pair fall found later = one_more g id d whole T c cs t (λ p k. k m inside pair shown) (later found)
shown_by g id d whole T c cs m rest t (Some u) shown passes inside pair fall found later =
    record {
      course = c;
      call = m;
      has = contains_first c cs;
      inside = inside;
      pair = pair;
      passes = passes;
      shown = shown ∙ ap (λ n. Some n) found;
      newest = λ e has p k. elim (contains_cases c cs e has) as (λ z. e.made.step ≤ c.made.step) [
        | inl same ↦ subst (λ (y : Course). y.made.step ≤ c.made.step) same (refl_le c.made.step)
        | inr more ↦ below_next e.made.step c.made.step (calls_below (c.made.step + 1) cs e fall more)
      ];
    }

last_by : (g : Layout) (id : ℕ) (d : Daemon) (whole : List Submitted) (T : Call → Bool) (c : Course) (cs : List Course) (m : Submitted) (rest : List Submitted) (t : ℕ) (b : Bool) → T c.call ≡ b
    → Contains whole m → IsCourseOf d c m → CallsFall (c.made.step + 1) cs → base_turn g id (cond b (m ∷ rest) rest) ≡ t → (base_turn g id rest ≡ t → LastTurn g id d whole T cs t)
    → LastTurn g id d whole T (c ∷ cs) t
last_by g id d whole T c cs m rest t false test inside pair fall found later = one_more g id d whole T c cs t (λ p k. true_is_false (sym p ∙ test)) (later found)
last_by g id d whole T c cs m rest t true test inside pair fall found later =
    shown_by g id d whole T c cs m (base_turn g id rest) t (turn_shown g id m) refl test inside pair fall found later

some_turn : (t : ℕ) → 0 ≡ t → 1 ≤ t → ⊥
some_turn t e h = omega (arith, e, h)

pub last_turn : (g : Layout) (id : ℕ) (d : Daemon) (whole : List Submitted) (T : Call → Bool) (n : ℕ) (cs : List Course) (ms : List Submitted) (t : ℕ)
    → ((m : Submitted) → Contains ms m → Contains whole m) → Pairwise (IsCourseOf d) cs ms → CallsFall n cs → base_turn g id (kept_calls T ms) ≡ t → 1 ≤ t → LastTurn g id d whole T cs t
last_turn g id d whole T n [] [] t inside pairs fall found some = absurd (some_turn t found some)
last_turn g id d whole T n [] (m ∷ ms) t inside pairs fall found some = absurd pairs
last_turn g id d whole T n (c ∷ cs) [] t inside pairs fall found some = absurd pairs
last_turn g id d whole T n (c ∷ cs) (m ∷ ms) t inside pairs fall found some =
    let call : m.call ≡ c.call = pairs.0.call in
    last_by g id d whole T c cs m (kept_calls T ms) t (T c.call) refl (inside m (contains_first m ms)) pairs.0 fall.2
    (ap (λ y. base_turn g id (cond (T y) (m ∷ kept_calls T ms) (kept_calls T ms))) (sym call) ∙ found)
    (λ f. last_turn g id d whole T (c.made.step + 1) cs ms t (λ z has. inside z (contains_more m ms z has)) pairs.1 fall.2 f some)

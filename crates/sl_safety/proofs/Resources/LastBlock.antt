-- The block that a session last submitted, in its trace and among its machine's calls.
use Rattle.sl_run_law.specs.Course.CallStamps.{IsCourseOf, Pairwise}
use Rattle.sl_run_law.specs.Leases.Ways.{lease_among}
use Rattle.sl_trace.specs.Leases.{block_of_record, block_submitted, is_lease_call, is_on}
use Rattle.sl_run_law.specs.Moment.Orders.{CallsFall}
use Rattle.sl_words.proofs.Lists.{contains_cases, contains_first, contains_more, contains_none}
use Rattle.sl_words.proofs.Numbers.{below_next, refl_le}
use Rattle.sl_safety.proofs.Resources.NewestCalls.{calls_below}
use Rattle.sl_safety.specs.Resources.SentCalls.{block_of_course, writes_block}
use Rattle.sl_run.specs.Worlds.{Course, Daemon}
use Rattle.sl_sector.specs.declared.sector.Block.{Block}
use Rattle.sl_trace.specs.Sessions.{is_call_of}
use Rattle.sl_trace.specs.declared.session.Session.{Session}
use Rattle.sl_trace.specs.Traces.{Setting, Submitted, new_call, record_of}
use Rattle.sl_trace.specs.declared.effects.Call.{Call}
use Rattle.sl_trace.specs.declared.effects.Spot.{Spot}
use Rattle.sl_words.proofs.CaseLaws.{none_some, true_is_false}
use Rattle.std.proofs.Common.{ap, inl, inr, refl, subst, sym, ◌∙◌}
use Rattle.std.specs.Prelude.{Bool, Contains, List, None, Option, Some, [], cond, false, filter, is_some, option_and_then, true, ℕ, ◌&&◌, ◌+◌, ◌∷◌, ◌≡◌, ◌≤◌}

-- Whether a call is of the session's lease on the area.
abbrev pub of_lease : Setting → Session → Spot → Call → Bool
of_lease st s at c = is_call_of s (new_call 0 0 c) && (is_lease_call (new_call 0 0 c) && is_on st.layout at c)

abbrev pub kept_calls : (Call → Bool) → List Submitted → List Submitted
kept_calls T ms = filter (λ m. T m.call) ms

twice_by : (p q : Submitted → Bool) (m : Submitted) (ms : List Submitted) (a b : Bool) → q m ≡ a → p m ≡ b
    → filter p (filter q ms) ≡ filter (λ x. q x && p x) ms → filter p (cond a (m ∷ filter q ms) (filter q ms)) ≡ cond (a && b) (m ∷ filter (λ x. q x && p x) ms) (filter (λ x. q x && p x) ms)
twice_by p q m ms true true one two rest = ap (λ b. cond b (m ∷ filter p (filter q ms)) (filter p (filter q ms))) two ∙ ap (λ l. m ∷ l) rest
twice_by p q m ms true false one two rest = ap (λ b. cond b (m ∷ filter p (filter q ms)) (filter p (filter q ms))) two ∙ rest
twice_by p q m ms false true one two rest = rest
twice_by p q m ms false false one two rest = rest

twice : (p q : Submitted → Bool) (ms : List Submitted) → filter p (filter q ms) ≡ filter (λ x. q x && p x) ms
twice p q [] = refl
twice p q (m ∷ ms) =
    ap (λ a. filter p (cond a (m ∷ filter q ms) (filter q ms))) refl
    ∙ twice_by p q m ms (q m) (p m) refl refl (twice p q ms)

-- The lease's calls are those that pass.
pub lease_kept : (st : Setting) (s : Session) (at : Spot) (ms : List Submitted) → lease_among st s at ms ≡ kept_calls (of_lease st s at) ms
lease_kept st s at ms = twice (λ m. is_lease_call m && is_on st.layout at m.call) (is_call_of s) ms

-- The last block among calls that pass.
pub record LastBlock (T : Call → Bool) (cs : List Course) (own : Block) : Type 0 where
  pub course : Course
  pub has : Contains cs course
  pub passes : T course.call ≡ true
  pub block : block_of_course course ≡ Some own
  pub newest : (e : Course) → Contains cs e → T e.call ≡ true → writes_block e ≡ true → e.made.step ≤ course.made.step

abbrev writes_of : Call → Option Block
writes_of c = option_and_then block_of_record (record_of c.op)

-- A course that passes is not the head, where the head does not.
not_head : (T : Call → Bool) (c : Course) (cs : List Course) (e : Course) → Contains (c ∷ cs) e → (T c.call ≡ true → writes_block c ≡ true → ⊥) → T e.call ≡ true → writes_block e ≡ true → Contains cs e
not_head T c cs e has never passes writes =
    elim (contains_cases c cs e has) as (λ z. Contains cs e) [
      | inl same ↦ absurd (never (ap (λ (x : Course). T x.call) same ∙ passes) (ap (λ (x : Course). writes_block x) same ∙ writes))
      | inr more ↦ more
    ]

one_more : (T : Call → Bool) (c : Course) (cs : List Course) (own : Block) → (T c.call ≡ true → writes_block c ≡ true → ⊥) → LastBlock T cs own → LastBlock T (c ∷ cs) own
one_more T c cs own never l =
    record {
      course = l.course;
      has = contains_more c cs l.course l.has;
      passes = l.passes;
      block = l.block;
      newest = λ e has passes writes. l.newest e (not_head T c cs e has never passes writes) passes writes;
    }

head_is : (T : Call → Bool) (c : Course) (cs : List Course) (own : Block) → T c.call ≡ true → block_of_course c ≡ Some own → CallsFall (c.made.step + 1) cs → LastBlock T (c ∷ cs) own
head_is T c cs own passes block fall =
    record {
      course = c;
      has = contains_first c cs;
      passes = passes;
      block = block;
      newest = λ e has q writes. elim (contains_cases c cs e has) as (λ z. e.made.step ≤ c.made.step) [
        | inl same ↦ subst (λ (x : Course). x.made.step ≤ c.made.step) same (refl_le c.made.step)
        | inr more ↦ below_next e.made.step c.made.step (calls_below (c.made.step + 1) cs e fall more)
      ];
    }

wrote_by : (T : Call → Bool) (c : Course) (m : Submitted) (cs : List Course) (rest : List Submitted) (own : Block) (o : Option Block) → writes_of c.call ≡ o → T c.call ≡ true → CallsFall (c.made.step + 1) cs
    → elim o as (λ z. Option Block) [ Some b ↦ Some b | None ↦ block_submitted rest ] ≡ Some own → (block_submitted rest ≡ Some own → LastBlock T cs own) → LastBlock T (c ∷ cs) own
wrote_by T c m cs rest own None is passes fall found later = one_more T c cs own (λ p writes. true_is_false (sym writes ∙ ap (λ o. is_some o) is)) (later found)
wrote_by T c m cs rest own (Some b) is passes fall found later = head_is T c cs own passes (is ∙ found) fall

last_by : (T : Call → Bool) (c : Course) (m : Submitted) (cs : List Course) (rest : List Submitted) (own : Block) (t : Bool) → T c.call ≡ t → m.call ≡ c.call → CallsFall (c.made.step + 1) cs
    → block_submitted (cond t (m ∷ rest) rest) ≡ Some own → (block_submitted rest ≡ Some own → LastBlock T cs own) → LastBlock T (c ∷ cs) own
last_by T c m cs rest own false is same fall found later = one_more T c cs own (λ p writes. true_is_false (sym p ∙ is)) (later found)
last_by T c m cs rest own true is same fall found later =
    wrote_by T c m cs rest own (writes_of c.call) refl is fall
    (ap (λ x. elim (writes_of x) as (λ z. Option Block) [ Some b ↦ Some b | None ↦ block_submitted rest ]) (sym same) ∙ found) later

pub last_block : (d : Daemon) (T : Call → Bool) (n : ℕ) (cs : List Course) (ms : List Submitted) (own : Block) → Pairwise (IsCourseOf d) cs ms → CallsFall n cs
    → block_submitted (kept_calls T ms) ≡ Some own → LastBlock T cs own
last_block d T n [] [] own pairs fall found = absurd (none_some own found)
last_block d T n [] (m ∷ ms) own pairs fall found = absurd pairs
last_block d T n (c ∷ cs) [] own pairs fall found = absurd pairs
last_block d T n (c ∷ cs) (m ∷ ms) own pairs fall found =
    last_by T c m cs (kept_calls T ms) own (T c.call) refl pairs.0.call fall.2
    (ap (λ x. block_submitted (cond (T x) (m ∷ kept_calls T ms) (kept_calls T ms))) (sym pairs.0.call) ∙ found)
    (λ f. last_block d T (c.made.step + 1) cs ms own pairs.1 fall.2 f)

none_wrote : (m : Submitted) (rest : List Submitted) (o : Option Block) → elim o as (λ z. Option Block) [ Some b ↦ Some b | None ↦ block_submitted rest ] ≡ None
    → (o ≡ None) × (block_submitted rest ≡ None)
none_wrote m rest None h = (refl, h)
none_wrote m rest (Some b) h = absurd (none_some b (sym h))

none_by : (T : Call → Bool) (c : Course) (m : Submitted) (rest : List Submitted) (t : Bool) → T c.call ≡ t → m.call ≡ c.call → block_submitted (cond t (m ∷ rest) rest) ≡ None
    → (T c.call ≡ true → writes_block c ≡ true → ⊥) × (block_submitted rest ≡ None)
none_by T c m rest false is same h = (λ p writes. true_is_false (sym p ∙ is), h)
none_by T c m rest true is same h =
    let n = none_wrote m rest (writes_of m.call) h in
    (λ p writes. true_is_false (sym writes ∙ ap (λ x. is_some (writes_of x)) (sym same) ∙ ap (λ o. is_some o) n.0), n.1)

-- Where none was submitted none is among the calls.
pub no_block_there : (d : Daemon) (T : Call → Bool) (cs : List Course) (ms : List Submitted) (e : Course) → Pairwise (IsCourseOf d) cs ms
    → block_submitted (kept_calls T ms) ≡ None → Contains cs e → T e.call ≡ true → writes_block e ≡ true → ⊥
no_block_there d T [] ms e pairs none has passes writes = contains_none e has
no_block_there d T (c ∷ cs) [] e pairs none has passes writes = absurd pairs
no_block_there d T (c ∷ cs) (m ∷ ms) e pairs none has passes writes =
    let n = none_by T c m (kept_calls T ms) (T c.call) refl pairs.0.call
    (ap (λ x. block_submitted (cond (T x) (m ∷ kept_calls T ms) (kept_calls T ms))) (sym pairs.0.call) ∙ none) in
    no_block_there d T cs ms e pairs.1 n.1 (not_head T c cs e has n.0 passes writes) passes writes

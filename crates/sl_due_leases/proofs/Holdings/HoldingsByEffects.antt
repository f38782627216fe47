-- What single effects leave of the facts of holdings: signals, starts, replies and ends all of them, a move where it removes no
-- holder's connection.
use Rattle.sl_due_facts.specs.Acts.TraceSoFar.{entry_of}
use Rattle.sl_due.specs.Steps.{Step, add_end, add_move, add_reply, add_signal, add_start, seen}
use Rattle.sl_due_leases.proofs.Holdings.StandsGrow.{stands_same}
use Rattle.sl_due_leases.proofs.Holdings.PlainPlaces.{fewer_kept, kept_counted, one_place}
use Rattle.sl_due_facts.proofs.AddedEffects.EffectsAreTold.{effects_are_told}
use Rattle.sl_due_facts.specs.AddedEffects.OneMoreEffect.{with_end, with_move, with_reply, with_start}
use Rattle.sl_trace.specs.Leases.{is_lease_call, is_on}
use Rattle.sl_words.proofs.Lists.{contains_cases, contains_none, kept_inside}
use Rattle.sl_words.proofs.Numbers.{number_itself, refl_le, lt_then_le}
use Rattle.sl_words.proofs.Options.{mapped_value, some_there, then_value}
use Rattle.sl_trace.specs.Sessions.{calls_of, generation_in, generation_of, is_call_of, is_join_done, is_joined, joined_after, removed_after, session_numbered}
use Rattle.sl_trace.specs.Sightings.{counted_over, counts_over, evidence_in}
use Rattle.sl_trace.specs.declared.session.Session.{Session}
use Rattle.sl_due_facts.specs.Facts.HeardCall.{heard_by}
use Rattle.sl_due_facts.specs.Facts.HoldingFacts.{HoldingFacts, StandsExclusive}
use Rattle.sl_trace.specs.WatchdogConnections.{unregisters}
use Rattle.sl_trace.specs.Traces.{Child, Replied, Setting, Submitted, Trace, answered_in, children, first_child, held_by, holdings, is_before_input, is_ended_by, is_going_on, is_running, is_shared, job_of, mark, new_call, new_child, next_child, reply_to, same_place, spot_of_grant, submitted}
use Rattle.sl_trace.specs.declared.effects.End.{End}
use Rattle.sl_trace.specs.declared.effects.Entry.{Entry}
use Rattle.sl_trace.specs.declared.effects.Grant.{Grant}
use Rattle.sl_trace.specs.declared.effects.JobReply.{JobReply}
use Rattle.sl_trace.specs.declared.effects.Move.{Move}
use Rattle.sl_trace.specs.declared.effects.Signal.{Signal}
use Rattle.sl_trace.specs.declared.effects.Start.{Start}
use Rattle.sl_trace.specs.declared.input.Input.TheVariants.{Answer as Told, Exit, Line, Number, Spawned, Wake}
use Rattle.sl_trace.specs.declared.input.Input.{Input}
use Rattle.sl_trace.specs.declared.reply.Reply.{Reply}
use Rattle.sl_words.proofs.CaseLaws.{none_some, one_value, true_is_false}
use Rattle.sl_words.proofs.WordLaws.{and_true}
use Rattle.sl_words.specs.Words.{choose}
use Rattle.std.proofs.Common.{ap, arith, inl, inr, refl, subst, sym, ◌∙◌}
use Rattle.std.proofs.lemmas.List.{length-append}
use Rattle.std.proofs.lemmas.List.Elements.{Contains-append_cases, Contains-append_left, Contains-append_right, filter-append}
use Rattle.std.specs.List.{list_any}
use Rattle.std.specs.Option.{option_or}
use Rattle.std.specs.Prelude.{Bool, Contains, List, None, Option, Some, cond, false, filter, find, fold, is_none, is_some, length, map, nat_lt, not, option_and_then, option_map, true, [], ℕ, ◌&&◌, ◌++◌, ◌+◌, ◌<◌, ◌==◌, ◌||◌, ◌∷◌, ◌≡◌, ◌≤◌, ◌⊎◌}

-- ---- facts of holdings go on

-- Of a later trace that holds no more.
pub record Upheld (st : Setting) (t u : Trace) (heard now : Option ℕ) : Type 0 where
  pub inside : (g : Grant) → Contains (holdings u) g → Contains (holdings t) g
  pub fewer : (p : ℕ) (path : List ℕ) (offset : ℕ) → length (held_by (holdings u) p path offset) ≤ length (held_by (holdings t) p path offset)
  pub sessions : (n : ℕ) (s : Session) → session_numbered st t n ≡ Some s → session_numbered st u n ≡ Some s
  pub joined : (g : Grant) (s : Session) → Contains (holdings u) g → session_numbered st t g.session ≡ Some s → g.lockspace ≡ s.lockspace → is_joined t s ≡ true → is_joined u s ≡ true
  pub further : next_child t ≤ next_child u
  pub given : ((k : Child) → Contains (children t) k → k.process < next_child t) → (k : Child) → Contains (children u) k → k.process < next_child u
  pub stands : (g : Grant) (s : Session) → Contains (holdings u) g → session_numbered st t g.session ≡ Some s → is_shared g.mode ≡ false
      → StandsExclusive st t heard s (spot_of_grant g) g.lver → StandsExclusive st u now s (spot_of_grant g) g.lver

itself : (g : Grant) → (g.process == g.process && same_place g.path g.offset g.path g.offset) ≡ true
itself g = ap (λ b. b && same_place g.path g.offset g.path g.offset) (number_itself g.process) ∙ one_place g.path g.offset

just_one : (m n : ℕ) → 1 ≤ m → m ≤ n → n ≡ 1 → m ≡ 1
just_one m n a b c = omega (arith, a, b, c)

pub upheld : (st : Setting) (t u : Trace) (heard now : Option ℕ) → Upheld st t u heard now → HoldingFacts st t heard → HoldingFacts st u now
upheld st t u heard now k h =
    record {
      owned = λ g there.
          let o = h.owned g (k.inside g there) in
          (o.0, k.sessions g.session o.0 o.1, k.joined g o.0 there o.1 o.3 o.2, o.3, o.4);
      alone = λ g e here there same exclusive. h.alone g e (k.inside g here) (k.inside e there) same exclusive;
      single = λ g there.
          just_one (length (held_by (holdings u) g.process g.path g.offset)) (length (held_by (holdings t) g.process g.path g.offset))
          (kept_counted (λ (e : Grant). e.process == g.process && same_place e.path e.offset g.path g.offset) (holdings u) g there (itself g)) (k.fewer g.process g.path g.offset)
          (h.single g (k.inside g there));
      born = λ g there. lt_then_le g.process (next_child t) (next_child u) (h.born g (k.inside g there)) k.further;
      given = k.given h.given;
      stands = λ g s there its exclusive.
          let o = h.owned g (k.inside g there) in
          let was : session_numbered st t g.session ≡ Some s =
          subst (λ x. session_numbered st t g.session ≡ Some x) (one_value o.0 s (session_numbered st u g.session) (k.sessions g.session o.0 o.1) its) o.1 in
          k.stands g s there was exclusive (h.stands g s (k.inside g there) was exclusive);
    }

-- ---- effects that tell nothing of a lease's calls

abbrev pub HoldsAt : Step → Type 0
HoldsAt x = HoldingFacts x.setting (seen x) (heard_by x.input)

pub signal_held : (x : Step) (p : ℕ) (signal : Signal) → HoldsAt x → HoldsAt (add_signal p signal x)
signal_held x p signal h =
    upheld x.setting (seen x) (seen (add_signal p signal x)) (heard_by x.input) (heard_by x.input) (record {
      inside = λ g there. there;
      fewer = λ q path offset. refl_le (length (held_by (holdings (seen x)) q path offset));
      sessions = λ n s its. its;
      joined = λ g s there its name joined. joined;
      further = refl_le (next_child (seen x));
      given = λ kept. kept;
      stands = λ g s there its exclusive stands.
          stands_same x.setting (seen x) (seen (add_signal p signal x)) (heard_by x.input) (heard_by x.input) s (spot_of_grant g) g.lver refl refl (λ j n is. is) (λ m inside opens. opens) stands;
    }) h

more_children : (n k : ℕ) → n ≤ n + k
more_children n k = omega arith

next_more : (past : Trace) (e : Entry) (s : Start) → next_child (e ∷ past) ≤ next_child (with_start s e ∷ past)
next_more past e s = subst (λ ks. next_child (e ∷ past) ≤ first_child + length ks) (sym (effects_are_told.starts s e past)) (by (children (e ∷ past)) (new_child s)) where
  by : (ks : List Child) (k : Child) → first_child + length ks ≤ first_child + length (ks ++ k ∷ [])
  by ks k = subst (λ n. first_child + length ks ≤ first_child + n) (sym (length-append ks (k ∷ []))) (omega arith)

pub next_less : (past : Trace) (e : Entry) (s : Start) → next_child (e ∷ past) < next_child (with_start s e ∷ past)
next_less past e s = subst (λ ks. next_child (e ∷ past) < first_child + length ks) (sym (effects_are_told.starts s e past)) (by (children (e ∷ past)) (new_child s)) where
  by : (ks : List Child) (k : Child) → first_child + length ks < first_child + length (ks ++ k ∷ [])
  by ks k = subst (λ n. first_child + length ks < first_child + n) (sym (length-append ks (k ∷ []))) (omega arith)

-- The child has the next number.
given_more : (past : Trace) (e : Entry) (s : Start) → s.process ≡ next_child (e ∷ past) → ((k : Child) → Contains (children (e ∷ past)) k → k.process < next_child (e ∷ past))
    → (k : Child) → Contains (children (with_start s e ∷ past)) k → k.process < next_child (with_start s e ∷ past)
given_more past e s next old k there = by (Contains-append_cases (children (e ∷ past)) (new_child s ∷ []) k (subst (λ ks. Contains ks k) (effects_are_told.starts s e past) there)) where
  only : (new_child s ≡ k) ⊎ Contains [] k → k.process < next_child (with_start s e ∷ past)
  only (inl is) = subst (λ (z : Child). z.process < next_child (with_start s e ∷ past)) is (subst (λ n. n < next_child (with_start s e ∷ past)) (sym next) (next_less past e s))
  only (inr none) = absurd (contains_none k none)

  by : Contains (children (e ∷ past)) k ⊎ Contains (new_child s ∷ []) k → k.process < next_child (with_start s e ∷ past)
  by (inl before) = lt_then_le k.process (next_child (e ∷ past)) (next_child (with_start s e ∷ past)) (old k before) (next_more past e s)
  by (inr new) = only (contains_cases (new_child s) [] k new)

pub start_held : (x : Step) (s : Start) → s.process ≡ next_child (seen x) → HoldsAt x → HoldsAt (add_start s x)
start_held x start next h =
    upheld x.setting (seen x) (seen (add_start start x)) (heard_by x.input) (heard_by x.input) (record {
      inside = λ g there. there;
      fewer = λ q path offset. refl_le (length (held_by (holdings (seen x)) q path offset));
      sessions = λ n s its. its;
      joined = λ g s there its name joined. joined;
      further = next_more x.past (entry_of x) start;
      given = given_more x.past (entry_of x) start next;
      stands = λ g s there its exclusive stands.
          stands_same x.setting (seen x) (seen (add_start start x)) (heard_by x.input) (heard_by x.input) s (spot_of_grant g) g.lver refl refl (λ j n is. is) (λ m inside opens. opens) stands;
    }) h

-- ---- ends

pub end_inside : (past : Trace) (e : Entry) (x : End) (g : Grant) → Contains (holdings (with_end x e ∷ past)) g → Contains (holdings (e ∷ past)) g
end_inside past e x g there =
    let left : List Grant = filter (λ k. not (is_ended_by e.effects.ends k)) (holdings past) in
    by left (Contains-append_cases (filter (λ k. not (is_ended_by (x ∷ []) k)) left) e.effects.grants g (subst (λ gs. Contains gs g) (effects_are_told.ends x e past) there)) where
      by : (left : List Grant) → Contains (filter (λ k. not (is_ended_by (x ∷ []) k)) left) g ⊎ Contains e.effects.grants g → Contains (left ++ e.effects.grants) g
      by left (inl old) = Contains-append_left left e.effects.grants g (kept_inside (λ k. not (is_ended_by (x ∷ []) k)) left g old).0
      by left (inr new) = Contains-append_right left e.effects.grants g new

fewer_left : {A : Type 0} (p q : A → Bool) (xs ys : List A) → length (filter p (filter q xs ++ ys)) ≤ length (filter p (xs ++ ys))
fewer_left p q xs ys =
    subst (λ zs. length zs ≤ length (filter p (xs ++ ys))) (sym (filter-append p (filter q xs) ys))
    (subst (λ zs. length (filter p (filter q xs) ++ filter p ys) ≤ length zs) (sym (filter-append p xs ys))
    (subst (λ n. n ≤ length (filter p xs ++ filter p ys)) (sym (length-append (filter p (filter q xs)) (filter p ys)))
    (subst (λ n. length (filter p (filter q xs)) + length (filter p ys) ≤ n) (sym (length-append (filter p xs) (filter p ys)))
    (let less = fewer_kept p q xs in omega (arith, less)))))

pub end_held : (x : Step) (e : End) → HoldsAt x → HoldsAt (add_end e x)
end_held x e h =
    upheld x.setting (seen x) (seen (add_end e x)) (heard_by x.input) (heard_by x.input) (record {
      inside = λ g there. end_inside x.past (entry_of x) e g there;
      fewer = λ q path offset.
          subst (λ gs. length (held_by gs q path offset) ≤ length (held_by (holdings (seen x)) q path offset)) (sym (effects_are_told.ends e (entry_of x) x.past))
          (fewer_left (λ (g : Grant). g.process == q && same_place g.path g.offset path offset) (λ g. not (is_ended_by (e ∷ []) g))
          (filter (λ g. not (is_ended_by x.effects.ends g)) (holdings x.past)) x.effects.grants);
      sessions = λ n s its. its;
      joined = λ g s there its name joined. joined;
      further = refl_le (next_child (seen x));
      given = λ kept. kept;
      stands = λ g s there its exclusive stands.
          stands_same x.setting (seen x) (seen (add_end e x)) (heard_by x.input) (heard_by x.input) s (spot_of_grant g) g.lver refl refl (λ j n is. is) (λ m inside opens. opens) stands;
    }) h

-- ---- moves

-- The move removes no holder's connection.
abbrev pub SparesHolders : Step → Move → Type 0
SparesHolders x m = (g : Grant) → Contains (holdings (seen x)) g → unregisters g.lockspace m ≡ false

any_more : {A : Type 0} (p : A → Bool) (xs : List A) (y : A) → p y ≡ false → list_any p (xs ++ y ∷ []) ≡ list_any p xs
any_more p [] y fails = ap (λ b. b || false) fails
any_more p (x ∷ xs) y fails = ap (λ b. p x || b) (any_more p xs y fails)

removed_by : Trace → Session → Bool → Option ℕ
removed_by past s moved = elim (removed_after past s) as (λ z. Option ℕ) [ Some k ↦ Some k | None ↦ choose (is_some (joined_after past s) && moved) (length past + 1) ]

joined_moved : (past : Trace) (e : Entry) (s : Session) (m : Move) → unregisters s.lockspace m ≡ false → is_joined (e ∷ past) s ≡ true → is_joined (with_move m e ∷ past) s ≡ true
unfolding removed_by
joined_moved past e s m spares joined =
    ap (λ b. is_some (joined_after (e ∷ past) s) && is_none (removed_by past s b)) (any_more (unregisters s.lockspace) e.effects.moves m spares) ∙ joined

pub move_held : (x : Step) (m : Move) → SparesHolders x m → HoldsAt x → HoldsAt (add_move m x)
move_held x m spares h =
    upheld x.setting (seen x) (seen (add_move m x)) (heard_by x.input) (heard_by x.input) (record {
      inside = λ g there. there;
      fewer = λ q path offset. refl_le (length (held_by (holdings (seen x)) q path offset));
      sessions = λ n s its. its;
      joined = λ g s there its name joined. joined_moved x.past (entry_of x) s m (subst (λ n. unregisters n m ≡ false) name (spares g there)) joined;
      further = refl_le (next_child (seen x));
      given = λ kept. kept;
      stands = λ g s there its exclusive stands.
          stands_same x.setting (seen x) (seen (add_move m x)) (heard_by x.input) (heard_by x.input) s (spot_of_grant g) g.lver refl refl (λ j n is. is) (λ m inside opens. opens) stands;
    }) h

-- ---- replies

found_still : {A : Type 0} (p : A → Bool) (xs ys : List A) (x : A) → find p xs ≡ Some x → find p (xs ++ ys) ≡ Some x
found_still p [] ys x is = absurd (none_some x is)
found_still p (z ∷ xs) ys x is = by (p z) is (λ rest. found_still p xs ys x rest) where
  by : (b : Bool) → cond b (Some z) (find p xs) ≡ Some x → (find p xs ≡ Some x → find p (xs ++ ys) ≡ Some x) → cond b (Some z) (find p (xs ++ ys)) ≡ Some x
  by true is rest = is
  by false is rest = rest is

-- A reply that there is stays.
pub reply_stays : (past : Trace) (e : Entry) (a : JobReply) (job : ℕ) (r : Replied) → reply_to (e ∷ past) job ≡ Some r → reply_to (with_reply a e ∷ past) job ≡ Some r
reply_stays past e a job r is = by (reply_to past job) is where
  here : option_map (λ (b : JobReply). record { at = length past; reply = b.reply }) (find (λ b. b.job == job) e.effects.replies) ≡ Some r
      → option_map (λ (b : JobReply). record { at = length past; reply = b.reply }) (find (λ b. b.job == job) (e.effects.replies ++ a ∷ [])) ≡ Some r
  here is =
      let v = mapped_value (λ (b : JobReply). record { at = length past; reply = b.reply }) (find (λ b. b.job == job) e.effects.replies) r is in
      ap (λ o. option_map (λ (b : JobReply). record { at = length past; reply = b.reply }) o) (found_still (λ b. b.job == job) e.effects.replies (a ∷ []) v.0 v.1) ∙ ap (λ q. Some q) v.2

  by : (o : Option Replied) → (elim o as (λ z. Option Replied) [ Some q ↦ Some q | None ↦ option_map (λ (b : JobReply). record { at = length past; reply = b.reply }) (find (λ b. b.job == job) e.effects.replies) ]) ≡ Some r
      → (elim o as (λ z. Option Replied) [ Some q ↦ Some q | None ↦ option_map (λ (b : JobReply). record { at = length past; reply = b.reply }) (find (λ b. b.job == job) (e.effects.replies ++ a ∷ [])) ]) ≡ Some r
  by (Some q) is = is
  by None is = here is

-- So what joined stays joined.
joined_by : (job : Option ℕ) (t : Trace) → Option ℕ
joined_by job t = elim job as (λ z. Option ℕ) [ None ↦ Some 0 | Some j ↦ option_and_then (λ r. choose (is_join_done r.reply) (r.at + 1)) (reply_to t j) ]

pub joined_replied : (past : Trace) (e : Entry) (a : JobReply) (s : Session) (k : ℕ) → joined_after (e ∷ past) s ≡ Some k → joined_after (with_reply a e ∷ past) s ≡ Some k
joined_replied past e a s k is = by s.job is where
  by : (job : Option ℕ) → (elim job as (λ z. Option ℕ) [ None ↦ Some 0 | Some j ↦ option_and_then (λ r. choose (is_join_done r.reply) (r.at + 1)) (reply_to (e ∷ past) j) ]) ≡ Some k
      → (elim job as (λ z. Option ℕ) [ None ↦ Some 0 | Some j ↦ option_and_then (λ r. choose (is_join_done r.reply) (r.at + 1)) (reply_to (with_reply a e ∷ past) j) ]) ≡ Some k
  by None is = is
  by (Some j) is =
      let v = then_value (λ (r : Replied). choose (is_join_done r.reply) (r.at + 1)) (reply_to (e ∷ past) j) k is in
      ap (λ o. option_and_then (λ (r : Replied). choose (is_join_done r.reply) (r.at + 1)) o) (reply_stays past e a j v.0 v.1) ∙ v.2

some_joined : (past : Trace) (e : Entry) (a : JobReply) (s : Session) → is_some (joined_after (e ∷ past) s) ≡ true → is_some (joined_after (with_reply a e ∷ past) s) ≡ true
some_joined past e a s is = let v = some_there (joined_after (e ∷ past) s) is in ap (λ o. is_some o) (joined_replied past e a s v.0 v.1)

-- What was counted as over still is, where what counts now still does.
pub counted_on : (st : Setting) (past : Trace) (e d : Entry) (s : Session) (j n : ℕ) → (counts_over st (e ∷ past) s j n ≡ true → counted_over st (d ∷ past) s j n ≡ true)
    → counted_over st (e ∷ past) s j n ≡ true → counted_over st (d ∷ past) s j n ≡ true
counted_on st past e d s j n still is = by (counts_over st (e ∷ past) s j n) refl is where
  later : (b : Bool) → counted_over st past s j n ≡ true → (elim b as (λ z. Bool) [ true ↦ true | false ↦ counted_over st past s j n ]) ≡ true
  later true old = refl
  later false old = old

  by : (b : Bool) → counts_over st (e ∷ past) s j n ≡ b → (elim b as (λ z. Bool) [ true ↦ true | false ↦ counted_over st past s j n ]) ≡ true → counted_over st (d ∷ past) s j n ≡ true
  by true at is = still at
  by false at is = later (counts_over st (d ∷ past) s j n) is

pub counted_now : (st : Setting) (t : Trace) (s : Session) (j n : ℕ) → counts_over st t s j n ≡ true → counted_over st t s j n ≡ true
counted_now st [] s j n is = is
counted_now st (e ∷ past) s j n is = ap (λ b. elim b as (λ z. Bool) [ true ↦ true | false ↦ counted_over st past s j n ]) is

-- Evidence, or an older one of the own id.
abbrev over_by : Bool → Bool → Bool → Bool → Bool
over_by shown own older joined = elim shown as (λ z. Bool) [ true ↦ true | false ↦ own && (older && joined) ]

over_on : (shown own older joined later : Bool) → (joined ≡ true → later ≡ true) → (elim shown as (λ z. Bool) [ true ↦ true | false ↦ (own && older) && joined ]) ≡ true
    → (elim shown as (λ z. Bool) [ true ↦ true | false ↦ (own && older) && later ]) ≡ true
over_on true own older joined later stays is = refl
over_on false own older joined later stays is = let v = and_true (own && older) joined is in ap (λ b. b && later) v.0 ∙ stays v.1

-- By a reply the calls stay as they are, but that an answer of this entry may not have been heeded.
abbrev pub SameCalls : Trace → Entry → JobReply → Type 0
SameCalls past e a = submitted (with_reply a e ∷ past) ≡ submitted (e ∷ past)

abbrev pub is_told : Input → Bool
is_told (Told n w) = true
is_told i = false

marks_apart : (past : Trace) (e d : Entry) (i : Input) (ms : List Submitted) → is_told i ≡ false → mark past d i ms ≡ mark past e i ms
marks_apart past e d (Told n w) ms none = absurd (true_is_false none)
marks_apart past e d (Line text) ms none = refl
marks_apart past e d (Number text) ms none = refl
marks_apart past e d (Exit p) ms none = refl
marks_apart past e d (Spawned p ok) ms none = refl
marks_apart past e d Wake ms none = refl

abbrev made_on : Trace → Entry → List Submitted → List Submitted
made_on past e ms = fold (λ ns c. new_call (length past) e.reading c ∷ ns) ms e.effects.calls

-- Where nothing was answered.
pub unanswered_same : (past : Trace) (e : Entry) (a : JobReply) → is_told e.input ≡ false → SameCalls past e a
unanswered_same past e a none = ap (λ ms. made_on past e ms) (marks_apart past e (with_reply a e) e.input (submitted past) none)

pub waking_same : (past : Trace) (e : Entry) (a : JobReply) → e.input ≡ Wake → SameCalls past e a
waking_same past e a wake = unanswered_same past e a (ap (λ i. is_told i) wake)

no_job : (a b : Bool) → b ≡ false → (a && b) ≡ false
no_job true b is = is
no_job false b is = refl

going_same : (past : Trace) (e : Entry) (a : JobReply) (o : Option ℕ) → is_before_input a.reply ≡ false → is_going_on past (with_reply a e) o ≡ is_going_on past e o
going_same past e a None later = refl
going_same past e a (Some j) later =
    ap (λ b. is_running past j && not b) (any_more (λ (b : JobReply). b.job == j && is_before_input b.reply) e.effects.replies a (no_job (a.job == j) (is_before_input a.reply) later))

marks_later : (past : Trace) (e : Entry) (a : JobReply) (i : Input) (ms : List Submitted) → is_before_input a.reply ≡ false → mark past (with_reply a e) i ms ≡ mark past e i ms
marks_later past e a (Told n w) ms later = map_as (answered_in past (with_reply a e) n w) (answered_in past e n w) same ms where
  same : (m : Submitted) → answered_in past (with_reply a e) n w m ≡ answered_in past e n w m
  same m =
      ap (λ b. elim (m.call.number == n) as (λ z. Submitted) [
        | false ↦ m
        | true ↦ record m { answer = option_or m.answer (Some (record { at = length past; reading = e.reading; answer = w; heeded = b })) }
      ]) (going_same past e a (job_of m.call.purpose) later)

  map_as : (f g : Submitted → Submitted) → ((m : Submitted) → f m ≡ g m) → (ms : List Submitted) → map f ms ≡ map g ms
  map_as f g same [] = refl
  map_as f g same (m ∷ ms) = ap (λ x. x ∷ map f ms) (same m) ∙ ap (λ xs. g m ∷ xs) (map_as f g same ms)
marks_later past e a (Line text) ms later = refl
marks_later past e a (Number text) ms later = refl
marks_later past e a (Exit p) ms later = refl
marks_later past e a (Spawned p ok) ms later = refl
marks_later past e a Wake ms later = refl

-- Where the reply isn't one that comes before the input.
pub later_same : (past : Trace) (e : Entry) (a : JobReply) → is_before_input a.reply ≡ false → SameCalls past e a
later_same past e a later = ap (λ ms. made_on past e ms) (marks_later past e a e.input (submitted past) later)

counted_replied : (st : Setting) (past : Trace) (e : Entry) (a : JobReply) (s : Session) (j n : ℕ) → SameCalls past e a → counted_over st (e ∷ past) s j n ≡ true
    → counted_over st (with_reply a e ∷ past) s j n ≡ true
counted_replied st past e a s j n same is =
    counted_on st past e (with_reply a e) s j n
    (λ now. counted_now st (with_reply a e ∷ past) s j n
    (subst (λ ms. over_in st (with_reply a e ∷ past) s j n (filter (is_call_of s) ms) ≡ true) (sym same)
    (over_on (is_some (evidence_in st (calls_of (e ∷ past) s) j n)) (j == s.id) (nat_lt n (generation_of (e ∷ past) s)) (is_some (joined_after (e ∷ past) s)) (is_some (joined_after (with_reply a e ∷ past) s))
    (λ joined. some_joined past e a s joined) now))) is where
      over_in : Setting → Trace → Session → ℕ → ℕ → List Submitted → Bool
      over_in st t s j n ms = elim (is_some (evidence_in st ms j n)) as (λ z. Bool) [ true ↦ true | false ↦ (j == s.id && nat_lt n (generation_in s ms)) && is_some (joined_after t s) ]

pub still_joined : (past : Trace) (e : Entry) (a : JobReply) (s : Session) → is_joined (e ∷ past) s ≡ true → is_joined (with_reply a e ∷ past) s ≡ true
still_joined past e a s is =
    let v = and_true (is_some (joined_after (e ∷ past) s)) (is_none (removed_after (e ∷ past) s)) is in
    ap (λ b. b && is_none (removed_after (e ∷ past) s)) (some_joined past e a s v.0) ∙ v.1

pub reply_held : (x : Step) (j : ℕ) (r : Reply) → SameCalls x.past (entry_of x) (record { job = j; reply = r }) → HoldsAt x → HoldsAt (add_reply j r x)
reply_held x j r same h =
    let a : JobReply = record { job = j; reply = r } in
    upheld x.setting (seen x) (seen (add_reply j r x)) (heard_by x.input) (heard_by x.input) (record {
      inside = λ g there. there;
      fewer = λ q path offset. refl_le (length (held_by (holdings (seen x)) q path offset));
      sessions = λ n s its. its;
      joined = λ g s there its name joined. still_joined x.past (entry_of x) a s joined;
      further = refl_le (next_child (seen x));
      given = λ kept. kept;
      stands = λ g s there its exclusive stands.
          stands_same x.setting (seen x) (seen (add_reply j r x)) (heard_by x.input) (heard_by x.input) s (spot_of_grant g) g.lver
          (ap (λ ms. filter (λ m. is_lease_call m && is_on x.setting.layout (spot_of_grant g) m.call) (filter (is_call_of s) ms)) same)
          (ap (λ ms. generation_in s (filter (is_call_of s) ms)) same)
          (λ i n is. counted_replied x.setting x.past (entry_of x) a s i n same is) (λ m inside opens. opens) stands;
    }) h

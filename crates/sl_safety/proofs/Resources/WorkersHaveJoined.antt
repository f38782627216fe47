-- Who works on a resource has joined by then.
use Rattle.sl_run_law.specs.Course.CallStamps.{stamp_in}
use Rattle.sl_run_law.proofs.Place.Daemons.{daemons_are_fine, stamp_order}
use Rattle.sl_words.proofs.Numbers.{below_itself_suc, less_than_suc, zero_least}
use Rattle.sl_safety.proofs.Resources.Calls.{IsWork, found_of, made_of, stood}
use Rattle.sl_safety.specs.Resources.Histories.{joined_step}
use Rattle.sl_safety.specs.Resources.SentCalls.{Sent, step_of}
use Rattle.sl_run.specs.Runs.{Happening}
use Rattle.sl_run.specs.Safety.{Found, LawfulRun, world_at}
use Rattle.sl_run.specs.Worlds.{Program, Stamp, World}
use Rattle.sl_run.specs.declared.header.Header.{Header}
use Rattle.sl_run.specs.declared.header.ResourceLine.{ResourceLine}
use Rattle.sl_run_law.proofs.Sessions.MarksStay.{joined_more, stays}
use Rattle.sl_trace.specs.Sessions.{is_join_done, joined_after}
use Rattle.sl_trace.specs.declared.session.Session.{Session}
use Rattle.sl_trace.specs.Traces.{Replied, Submitted, Trace, reply_in, reply_to}
use Rattle.sl_trace.specs.declared.effects.Call.{Call}
use Rattle.sl_trace.specs.declared.effects.Entry.{Entry}
use Rattle.sl_run.specs.LawfulArea.{is_area_work}
use Rattle.sl_trace.specs.declared.effects.JobReply.{JobReply}
use Rattle.sl_words.proofs.CaseLaws.{none_some, some_value}
use Rattle.sl_words.proofs.WordLaws.{choose_some}
use Rattle.sl_words.specs.Words.{choose}
use Rattle.std.proofs.Common.{ap, arith, refl, subst, sym, ◌∙◌}
use Rattle.std.specs.Option.{option_map_or}
use Rattle.std.specs.Prelude.{Bool, List, None, Option, Some, [], false, find, length, option_and_then, option_map, suc, true, ℕ, ◌+◌, ◌-◌, ◌<◌, ◌==◌, ◌∷◌, ◌≡◌, ◌≤◌}

new_reply : (es : Trace) (e : Entry) (j : ℕ) (r : Replied) → reply_in j es e ≡ Some r → r.at ≡ length es
new_reply es e j r is = by (find (λ (a : JobReply). a.job == j) e.effects.replies) is where
  by : (o : Option JobReply) → option_map (λ (a : JobReply). let q : Replied = record { at = length es; reply = a.reply } in q) o ≡ Some r → r.at ≡ length es
  by None h = absurd (none_some r h)
  by (Some a) h = ap (λ (q : Replied). q.at) (sym (some_value _ r h))

reply_by : (es : Trace) (e : Entry) (j : ℕ) (r : Replied) (o : Option Replied) → reply_to es j ≡ o → elim o as (λ z. Option Replied) [ Some q ↦ Some q | None ↦ reply_in j es e ] ≡ Some r
    → ((q : Replied) → reply_to es j ≡ Some q → q.at < length es) → r.at < suc (length es)
reply_by es e j r None was is rest = subst (λ n. n < suc (length es)) (sym (new_reply es e j r is)) (below_itself_suc (length es))
reply_by es e j r (Some q) was is rest = less_than_suc r.at (length es) (subst (λ (x : Replied). x.at < length es) (some_value q r is) (rest q was))

reply_within : (es : Trace) (j : ℕ) (r : Replied) → reply_to es j ≡ Some r → r.at < length es
reply_within [] j r is = absurd (none_some r is)
reply_within (e ∷ es) j r is = reply_by es e j r (reply_to es j) refl is (λ q was. reply_within es j q was)

joined_by : (es : Trace) (s : Session) (k : ℕ) (o : Option ℕ) → elim o as (λ z. Option ℕ) [ None ↦ Some 0 | Some j ↦ option_and_then (λ (r : Replied). choose (is_join_done r.reply) (r.at + 1)) (reply_to es j) ] ≡ Some k
    → k ≤ length es
joined_by es s k None is = let z : 0 ≡ k = some_value 0 k is in omega (arith, z)
joined_by es s k (Some j) is = by (reply_to es j) refl is where
  by : (q : Option Replied) → reply_to es j ≡ q → option_and_then (λ (r : Replied). choose (is_join_done r.reply) (r.at + 1)) q ≡ Some k → k ≤ length es
  by None at h = absurd (none_some k h)
  by (Some r) at h =
      let lt : r.at < length es = reply_within es j r at in
      let e : r.at + 1 ≡ k = (choose_some (is_join_done r.reply) (r.at + 1) k h).1 in
      omega (arith, lt, e)

-- A session joins by an entry of its trace.
joined_within : (es : Trace) (s : Session) (k : ℕ) → joined_after es s ≡ Some k → k ≤ length es
joined_within es s k is = joined_by es s k s.job is

-- When a session that works had joined.
pub record JoinedBy (w : World) (x : Sent) (f : Found) : Type 0 where
  pub step : ℕ
  pub joined : joined_step f ≡ Some step
  pub early : step ≤ step_of x

abbrev step_after : List Stamp → ℕ → ℕ
step_after ss k = elim (k == 0) [ true ↦ 0 | false ↦ option_map_or (λ s. s.step) (stamp_in ss (k - 1)) 0 ]

step_by : (ss : List Stamp) (i : ℕ) (n : ℕ) (o : Option Stamp) → stamp_in ss i ≡ o → ((s : Stamp) → stamp_in ss i ≡ Some s → s.step ≤ n) → option_map_or (λ (s : Stamp). s.step) o 0 ≤ n
step_by ss i n None at rest = zero_least n
step_by ss i n (Some s) at rest = rest s at

joins_before : (ss : List Stamp) (k n : ℕ) (b : Bool) → (k == 0) ≡ b → ((s : Stamp) → stamp_in ss (k - 1) ≡ Some s → s.step ≤ n)
    → elim b as (λ z. ℕ) [ true ↦ 0 | false ↦ option_map_or (λ (s : Stamp). s.step) (stamp_in ss (k - 1)) 0 ] ≤ n
joins_before ss k n true is rest = zero_least n
joins_before ss k n false is rest = step_by ss (k - 1) n (stamp_in ss (k - 1)) refl rest

one_less : (k n a : ℕ) → k ≤ suc n → a ≡ n → k - 1 ≤ a
one_less k n a h e = omega (arith, h, e)

-- A session works from when it joined.
pub joined_then : (p : Program) (h : Header) (xs : List Happening) → LawfulRun p h xs → (r : ResourceLine) (x : Sent) (k : IsWork (world_at p h xs) r x)
    → JoinedBy (world_at p h xs) x (found_of k.owned)
joined_then p h xs run r x k =
    let o = k.owned in
    let d = made_of o in
    let q : Submitted = o.trace.submitted_as in
    let stands = stood o.trace.daemon.setting o.trace.daemon.trace o.session q d o.trace.lawful o.its o.mine (ap (λ (c : Call). is_area_work c.purpose) o.trace.is.call ∙ k.area) in
    let joined : joined_after o.trace.daemon.trace o.session ≡ Some stands.entries =
    subst (λ t. joined_after t o.session ≡ Some stands.entries) (sym d.whole) (stays joined_after joined_more d.later (d.entry ∷ d.past) o.session stands.entries stands.joined) in
    let early : stands.entries - 1 ≤ q.at =
    one_less stands.entries (length d.past) q.at (joined_within (d.entry ∷ d.past) o.session stands.entries stands.joined) d.place in
    record {
      step = step_after o.trace.daemon.stamps stands.entries;
      joined = ap (λ (n : Option ℕ). option_map (step_after o.trace.daemon.stamps) n) joined;
      early = joins_before o.trace.daemon.stamps stands.entries (step_of x) (stands.entries == 0) refl
          (λ s at.
          stamp_order (world_at p h xs).step o.trace.daemon.stamps (stands.entries - 1) q.at s x.course.made
          (daemons_are_fine p h xs run x.machine o.there.machine o.trace.daemon o.there.at o.trace.has).stamps at o.trace.is.made early);
    }

-- A read of a session, as a call of the world: a read of the history, and when it began.
use Rattle.sl_safety.proofs.Resources.TraceReads.{began_alone, began_twice, counted_at, counted_reads}
use Rattle.sl_safety.proofs.Ballot.Phase2Between.{Acked, acked_by}
use Rattle.sl_safety.specs.Resources.HistoryLaws.{spot_of_line}
use Rattle.sl_trace.specs.Sessions.{session_numbered}
use Rattle.sl_safety.proofs.Resources.OwnBlocks.{session_as}
use Rattle.sl_run_law.proofs.Place.PlaceLaws.{promised}
use Rattle.sl_run_law.specs.Leases.Ways.{lease_among}
use Rattle.sl_run_law.proofs.Place.TracesOnMachines.{lawful_daemon, session_inside}
use Rattle.sl_words.specs.Words.{first_of_list}
use Rattle.sl_trace.specs.Leases.{blocks_given, is_again, is_on}
use Rattle.std.proofs.Common.{ap, refl, subst, sym, ◌∙◌}
use Rattle.sl_safety.proofs.Resources.TraceCalls.{StandsAt, stands_at}
use Rattle.sl_trace.specs.declared.effects.Spot.{Spot}
use Rattle.sl_trace.specs.Traces.{Setting, Submitted, Trace, submitted}
use Rattle.sl_safety.specs.Resources.SentCalls.{Sent, began_at, is_joined_there, read_at, sender_of, step_of}
use Rattle.sl_run.specs.declared.header.ResourceLine.{ResourceLine}
use Rattle.sl_safety.specs.Resources.Reads.{ReadBlocks}
use Rattle.sl_safety.proofs.Resources.Calls.{IsWork}
use Rattle.sl_safety.proofs.Resources.StepsNameCalls.{found_read, numbers_meant, read_works}
use Rattle.sl_run_law.specs.Course.CallStamps.{IsCourseOf}
use Rattle.sl_run.specs.declared.header.Header.{Header}
use Rattle.sl_run.specs.Runs.{Happening}
use Rattle.sl_run.specs.Safety.{Found, IsSession, LawfulRun, SessionId, setting_in, trace_of, world_at}
use Rattle.sl_run.specs.LawfulBlock.{FirstAfter, ReadAfter}
use Rattle.sl_run.specs.Worlds.{Daemon, Program, World}
use Rattle.sl_trace.specs.declared.effects.Call.{Call}
use Rattle.std.specs.Prelude.{Bool, Contains, List, Option, Some, false, true, ◌++◌, ◌∷◌, ◌≡◌}
use Rattle.sl_sector.specs.declared.sector.Block.{Block}

-- A read that gave these blocks, with the calls of the session before it.
pub record ReadStands (p : Program) (h : Header) (xs : List Happening) (r : ResourceLine) (i : SessionId) (f : Found) (q : Submitted) (older : List Submitted) (bs : List (Option Block)) : Type 0 where
  pub z : StandsAt (world_at p h xs) i.machine f.machine f.daemon q older f.session
  pub sender : sender_of z.sent ≡ i
  pub on : is_on (world_at p h xs).layout (spot_of_line r) z.sent.course.call ≡ true
  pub joined : is_joined_there (world_at p h xs) r.lockspace (sender_of z.sent) ≡ true
  pub before : lease_among z.stands.daemon.setting z.stands.session (spot_of_line r) z.stands.told.older ≡ lease_among (setting_in f) f.session (spot_of_line r) older
  pub given : blocks_given z.stands.daemon.setting.layout z.stands.told.one (lease_among z.stands.daemon.setting z.stands.session (spot_of_line r) z.stands.told.older) ≡ Some bs
  pub found : read_at (world_at p h xs) (spot_of_line r) r.lockspace (began_at (world_at p h xs) (spot_of_line r) z.sent) ≡ Some z.sent
  pub blocks : ReadBlocks (world_at p h xs) r (began_at (world_at p h xs) (spot_of_line r) z.sent) bs

pub read_stands : (p : Program) (h : Header) (xs : List Happening) → LawfulRun p h xs → (r : ResourceLine) → Contains h.resources r → (i : SessionId) (f : Found)
    → IsSession (world_at p h xs) i f → is_joined_there (world_at p h xs) r.lockspace i ≡ true → (newer older : List Submitted) (q : Submitted) → submitted (trace_of f) ≡ newer ++ q ∷ older
    → q.call.session ≡ f.session.number → is_on (setting_in f).layout (spot_of_line r) q.call ≡ true → (bs : List (Option Block))
    → blocks_given (setting_in f).layout q (lease_among (setting_in f) f.session (spot_of_line r) older) ≡ Some bs → ReadStands p h xs r i f q older bs
read_stands p h xs run r there i f its joined newer older q is mine on bs given =
    let w : World = world_at p h xs in
    let at : Spot = spot_of_line r in
    let st : Setting = setting_in f in
    let es : Trace = trace_of f in
    let inside = session_inside w i f its in
    let meant = numbers_meant w i f its in
    let law = lawful_daemon p h xs run i.machine f.machine f.daemon inside.at inside.has in
    let layout = (promised.of_world p h xs run i.machine f.machine f.daemon inside.at inside.has).layout in
    let known : session_numbered st es q.call.session ≡ Some f.session = ap (λ n. session_numbered st es n) (mine ∙ meant.1) ∙ inside.its in
    let z = stands_at p h xs run i.machine f.machine f.daemon inside.at inside.has law newer older q is f.session known in
    let s = z.stands in
    let sender : sender_of z.sent ≡ i =
    session_as z.sent.machine z.sent.course.daemon z.sent.course.call.session i.machine i.daemon i.number z.machine_is (z.daemon_is ∙ meant.0)
    (ap (λ (c : Call). c.session) (sym z.pair.call) ∙ mine ∙ meant.1) in
    let there_on : is_on w.layout at z.sent.course.call ≡ true = ap (λ (c : Call). is_on w.layout at c) (sym z.pair.call) ∙ ap (λ g. is_on g at q.call) (sym layout) ∙ on in
    let here : is_joined_there w r.lockspace (sender_of z.sent) ≡ true = ap (λ j. is_joined_there w r.lockspace j) sender ∙ joined in
    let before : lease_among s.daemon.setting s.session at s.told.older ≡ lease_among st f.session at older =
    ap (λ (d : Daemon). lease_among d.setting s.session at s.told.older) z.daemon ∙ ap (λ y. lease_among st y at s.told.older) z.session
    ∙ ap (λ ms. lease_among st f.session at ms) z.older_is in
    let told : blocks_given s.daemon.setting.layout s.told.one (lease_among s.daemon.setting s.session at s.told.older) ≡ Some bs =
    ap (λ ms. blocks_given s.daemon.setting.layout s.told.one ms) before
    ∙ ap (λ (d : Daemon). blocks_given d.setting.layout s.told.one (lease_among st f.session at older)) z.daemon
    ∙ ap (λ m. blocks_given st.layout m (lease_among st f.session at older)) z.one ∙ given in
    record {
      z = z;
      sender = sender;
      on = there_on;
      joined = here;
      before = before;
      given = told;
      found = counted_at p h xs run r there z.sent z.has s there_on here bs told;
      blocks = counted_reads p h xs run r there z.sent z.has s there_on here bs told;
    }

-- ---- when it began

pub record IsFirst (p : Program) (h : Header) (xs : List Happening) (r : ResourceLine) (f : Found) (older : List Submitted) (z : Sent) : Type 0 where
  pub first : Sent
  pub told : Submitted
  pub newest : first_of_list (lease_among (setting_in f) f.session (spot_of_line r) older) ≡ Some told
  pub pair : IsCourseOf f.daemon first.course told
  pub began : began_at (world_at p h xs) (spot_of_line r) z ≡ step_of first

is_first : (p : Program) (h : Header) (xs : List Happening) → LawfulRun p h xs → (r : ResourceLine) → Contains h.resources r → (i : SessionId) (f : Found) (q : Submitted) (older : List Submitted)
    (bs : List (Option Block)) (s : ReadStands p h xs r i f q older bs) → is_again q ≡ true → IsFirst p h xs r f older s.z.sent
is_first p h xs run r there i f q older bs s again =
    let w : World = world_at p h xs in
    let work : IsWork w r s.z.sent = read_works p h xs run r s.z.sent s.z.has s.on (found_read w r (began_at w (spot_of_line r) s.z.sent) s.z.sent s.found).1 in
    let b = began_twice p h xs run r there s.z.sent s.z.stands work (ap (λ m. is_again m) s.z.one ∙ again) in
    record {
      first = b.first;
      told = b.told;
      newest = ap (λ ms. first_of_list ms) (sym s.before) ∙ ap (λ ms. first_of_list ms) b.newest;
      pair = subst (λ (d : Daemon). IsCourseOf d b.first.course b.told) s.z.daemon b.pair;
      began = b.began;
    }

-- What was answered ok before the read, and before its first where there is one, was so when it began.
began_by : (p : Program) (h : Header) (xs : List Happening) → LawfulRun p h xs → (r : ResourceLine) → Contains h.resources r → (i : SessionId) (f : Found) → IsSession (world_at p h xs) i f
    → (q : Submitted) (older : List Submitted) (bs : List (Option Block)) (s : ReadStands p h xs r i f q older bs) → (write : Submitted) → ReadAfter write q
    → FirstAfter write q (lease_among (setting_in f) f.session (spot_of_line r) older) → (y : Sent) → IsCourseOf f.daemon y.course write → (b : Bool) → is_again q ≡ b
    → Acked y (began_at (world_at p h xs) (spot_of_line r) s.z.sent)
began_by p h xs run r there i f its q older bs s write after first y pair false once =
    let w : World = world_at p h xs in
    let inside = session_inside w i f its in
    let began : began_at w (spot_of_line r) s.z.sent ≡ step_of s.z.sent = began_alone w r s.z.sent s.z.stands (ap (λ m. is_again m) s.z.one ∙ once) in
    subst (λ n. Acked y n) (sym began) (acked_by p h xs run i.machine f.machine f.daemon inside.at inside.has y write pair q s.z.sent.course s.z.pair.made after)
began_by p h xs run r there i f its q older bs s write after first y pair true again =
    let inside = session_inside (world_at p h xs) i f its in
    let k = is_first p h xs run r there i f q older bs s again in
    subst (λ n. Acked y n) (sym k.began)
    (acked_by p h xs run i.machine f.machine f.daemon inside.at inside.has y write pair k.told k.first.course k.pair.made (first again k.told k.newest))

pub began_after : (p : Program) (h : Header) (xs : List Happening) → LawfulRun p h xs → (r : ResourceLine) → Contains h.resources r → (i : SessionId) (f : Found) → IsSession (world_at p h xs) i f
    → (q : Submitted) (older : List Submitted) (bs : List (Option Block)) (s : ReadStands p h xs r i f q older bs) → (write : Submitted) → ReadAfter write q
    → FirstAfter write q (lease_among (setting_in f) f.session (spot_of_line r) older) → (y : Sent) → IsCourseOf f.daemon y.course write
    → Acked y (began_at (world_at p h xs) (spot_of_line r) s.z.sent)
began_after p h xs run r there i f its q older bs s write after first y pair = began_by p h xs run r there i f its q older bs s write after first y pair (is_again q) refl

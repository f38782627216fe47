-- A joined session of a resource's lockspace is named by its id and its generation, and its id is a host's.
use Rattle.sl_area.specs.AreaSizes.{Layout}
use Rattle.sl_id_safety.proofs.IdSafety.{generations_name_one}
use Rattle.sl_id_safety.proofs.JoinedStand.{joined_stand}
use Rattle.sl_run_law.proofs.Place.FoundInLists.{same_text}
use Rattle.sl_run_law.proofs.Place.TracesOnMachines.{layout_is}
use Rattle.sl_safety.specs.Resources.SentCalls.{holder_of, holder_of_found, is_joined_there, nobody}
use Rattle.sl_run.specs.Safety.{Found, HasJoined, IsSession, SessionId, session_of_world, trace_of, world_at}
use Rattle.sl_run.specs.Worlds.{World}
use Rattle.sl_ballot_law.specs.History.{Owner as Holder}
use Rattle.sl_safety.specs.Sessions.SessionLaws.{JoinedAreHosts, NamesAreApart}
use Rattle.sl_trace.specs.Sessions.{joined_after}
use Rattle.sl_words.proofs.WordLaws.{and_true, some_is_true}
use Rattle.std.proofs.Common.{ap, arith, subst, sym, ◌∙◌}
use Rattle.std.proofs.lemmas.Bool.Decides.{nat_tests}
use Rattle.std.proofs.lemmas.Bool.{and_from}
use Rattle.std.specs.Option.{option_map_or}
use Rattle.std.specs.Prelude.{List, Option, bytes_eq, is_some, nat_le, true, ℕ, ◌&&◌, ◌≡◌, ◌≤◌}

-- A joined session of this lockspace.
pub record IsMember (w : World) (lockspace : List ℕ) (i : SessionId) (f : Found) : Type 0 where
  pub its : IsSession w i f
  pub lockspace_is : f.session.lockspace ≡ lockspace
  pub joined : HasJoined f

pub member_of : (w : World) (lockspace : List ℕ) (i : SessionId) → is_joined_there w lockspace i ≡ true → (f : Found) × IsMember w lockspace i f
member_of w lockspace i is =
    let f = some_is_true (λ (g : Found). bytes_eq g.session.lockspace lockspace && is_some (joined_after (trace_of g) g.session)) (session_of_world w i) is in
    let both = and_true (bytes_eq f.0.session.lockspace lockspace) (is_some (joined_after (trace_of f.0) f.0.session)) f.2 in
    (f.0, record { its = f.1; lockspace_is = same_text f.0.session.lockspace lockspace both.0; joined = both.1 })

-- Its name.
pub member_name : (w : World) (i : SessionId) (f : Found) → IsSession w i f → holder_of w i ≡ holder_of_found f
member_name w i f its = ap (λ (o : Option Found). option_map_or holder_of_found o nobody) its

pub names_are_apart : NamesAreApart
names_are_apart p h xs r run there i k is also same =
    let w : World = world_at p h xs in
    let f = member_of w r.lockspace i is in
    let g = member_of w r.lockspace k also in
    let names : holder_of_found f.0 ≡ holder_of_found g.0 = sym (member_name w i f.0 f.1.its) ∙ same ∙ member_name w k g.0 g.1.its in
    generations_name_one p h xs run i k f.0 g.0 f.1.its g.1.its f.1.joined g.1.joined (f.1.lockspace_is ∙ sym g.1.lockspace_is) (ap (λ (o : Holder). o.id) names)
    (ap (λ (o : Holder). o.generation) names)

at_most : (n m : ℕ) → n ≤ m → nat_le n m ≡ true
at_most n m h = grind (arith, nat_tests)

pub joined_are_hosts : JoinedAreHosts
joined_are_hosts p h xs r run there i is =
    let w : World = world_at p h xs in
    let f = member_of w r.lockspace i is in
    let s = joined_stand p h xs run i f.0 f.1.its f.1.joined in
    let id : (holder_of w i).id ≡ s.place.id = ap (λ (o : Holder). o.id) (member_name w i f.0 f.1.its) ∙ s.names.2 in
    let hosts : w.layout.hosts ≡ h.geometry.hosts = ap (λ (g : Layout). g.hosts) (layout_is p h xs) in
    subst (λ n. (nat_le 1 n && nat_le n w.layout.hosts) ≡ true) (sym id)
    (subst (λ n. (nat_le 1 s.place.id && nat_le s.place.id n) ≡ true) (sym hosts)
    (and_from _ _ (at_most 1 s.place.id s.place.range.0) (at_most s.place.id h.geometry.hosts s.place.range.1)))

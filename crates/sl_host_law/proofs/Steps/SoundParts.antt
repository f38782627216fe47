-- What leaves a host sound: what only takes members out, and a call that is its job's.
use Rattle.sl_area.specs.AreaSizes.{IsGeometry, Layout}
use Rattle.sl_host_law.proofs.SharedFacts.PlainLists.{in_either, in_flat}
use Rattle.sl_host_state.specs.KeptState.{Config, HostState, MemberState}
use Rattle.sl_host_state.specs.MadeEffects.{calling, has_write_open, is_ended_by_move, joining_calling, known_calling, leases_calling, member_answered, member_calling, member_replying, with_move, with_reply}
use Rattle.sl_host_state.specs.NewHost.{IsOfProgram, sizes_in}
use Rattle.sl_host_state.specs.Passes.{whos}
use Rattle.sl_host_state.specs.HostStands.{is_joining, is_kept_of, kept_call}
use Rattle.sl_host_state.specs.declared.kept_parts.OpenCall.{OpenCall}
use Rattle.sl_host_law.specs.Steps.SoundHosts.{IsLaidOut, IsSound}
use Rattle.sl_host_law.specs.StepParts.Ends.{removing}
use Rattle.sl_words.proofs.Lists.{contains_cases, contains_map, contains_none, in_map, kept_inside}
use Rattle.sl_trace.specs.Sessions.{is_delta_purpose, is_join_done}
use Rattle.sl_trace.specs.declared.session.Session.{Session}
use Rattle.sl_trace.specs.Traces.{Submitted}
use Rattle.sl_trace.specs.declared.effects.Move.TheVariants.{Unregister}
use Rattle.sl_trace.specs.declared.effects.Move.{Move}
use Rattle.sl_trace.specs.declared.reply.Reply.{Reply}
use Rattle.sl_words.specs.Words.{some_is}
use Rattle.sl_trace.specs.declared.command.Command.TheVariants.{AddLockspace}
use Rattle.sl_trace.specs.declared.command.LockspaceArg.{LockspaceArg}
use Rattle.std.proofs.Common.{ap, inl, inr, refl, subst, sym, ◌∙◌}
use Rattle.std.specs.List.{list_any}
use Rattle.std.specs.Prelude.{Ok, Bool, Contains, List, Some, bytes_eq, cond, false, flat_map, map, not, true, [], ℕ, ◌&&◌, ◌++◌, ◌==◌, ◌∷◌, ◌≡◌, ◌≤◌, ◌⊎◌}

-- A member was one before.
pub record Was (h : HostState) (m : MemberState) : Type 0 where
  pub old : MemberState
  pub there : Contains h.members old
  pub who : old.who ≡ m.who
  pub leaving : old.known.leaving ≡ m.known.leaving

-- Members and calls were there before.
pub record IsCut (h g : HostState) : Type 0 where
  pub from : (m : MemberState) → Contains g.members m → Was h m
  pub calls : (c : OpenCall) → Contains g.unanswered c → Contains h.unanswered c
  pub config : g.config ≡ h.config

pub whose : (h g : HostState) → ((m : MemberState) → Contains g.members m → Was h m) → (s : Session) → Contains (whos g) s → Contains (whos h) s
whose h g from s there =
    let m = in_map (λ (m : MemberState). m.who) g.members s there in
    let z = from m.0 m.1 in
    subst (Contains (whos h)) (z.who ∙ m.2) (contains_map (λ (m : MemberState). m.who) h.members z.old z.there)

pub laid_as : (h g : HostState) → g.config ≡ h.config → ((s : Session) → Contains (whos g) s → Contains (whos h) s) → IsLaidOut h → IsLaidOut g
laid_as h g same back k =
    record {
      program = subst (λ (c : Config). IsOfProgram c.layout) (sym same) k.program;
      geometry = subst (λ (c : Config). IsGeometry (sizes_in c.layout)) (sym same) k.geometry;
      ids = λ s there. (let r = k.ids s (back s there) in (r.0, subst (λ (c : Config). s.id ≤ c.layout.hosts) (sym same) r.1));
      joins = subst (λ (c : Config). (text : List ℕ) (a : LockspaceArg) → c.read text ≡ Ok (AddLockspace a) → (1 ≤ a.id) × (a.id ≤ c.layout.hosts)) (sym same) k.joins;
    }

pub sound_cut : (h g : HostState) → IsCut h g → IsSound h → IsSound g
sound_cut h g cut k =
    record {
      names = λ s t a b. k.names s t (whose h g cut.from s a) (whose h g cut.from t b);
      leavings = record {
        calls = λ m c j there inside leaves of.
            (let z = cut.from m there in subst (λ (t : Session). (c.session == t.number) ≡ true) z.who (k.leavings.calls z.old c j z.there (cut.calls c inside) (z.leaving ∙ leaves) of));
        apart = λ m n j a b is it. (let y = cut.from m a in let z = cut.from n b in sym y.who ∙ k.leavings.apart y.old z.old j y.there z.there (y.leaving ∙ is) (z.leaving ∙ it) ∙ z.who);
        others = λ m n j a b is it. (let y = cut.from m a in let z = cut.from n b in k.leavings.others y.old z.old j y.there z.there (ap (λ (t : Session). t.job) y.who ∙ is) (z.leaving ∙ it));
      };
      joinings = record {
        calls = λ m c j there inside is of.
            (let z = cut.from m there in
            let r = k.joinings.calls z.old c j z.there (cut.calls c inside) (ap (λ (t : Session). t.job) z.who ∙ is) of in
            (subst (λ (t : Session). (c.session == t.number) ≡ true) z.who r.0, r.1));
        apart = λ m n j a b is it.
            (let y = cut.from m a in let z = cut.from n b in
            sym y.who ∙ k.joinings.apart y.old z.old j y.there z.there (ap (λ (t : Session). t.job) y.who ∙ is) (ap (λ (t : Session). t.job) z.who ∙ it) ∙ z.who);
      };
      laid = laid_as h g cut.config (whose h g cut.from) k.laid;
    }

-- ---- replies and moves

pub cut_reply : (h : HostState) (job : ℕ) (r : Reply) → IsCut h (with_reply job r h)
cut_reply h job r = record { from = from; calls = λ c there. there; config = refl } where
  was : (x m z : MemberState) → Contains h.members x → (m ≡ z) ⊎ Contains [] z → m.who ≡ x.who → m.known.leaving ≡ x.known.leaving → Was h z
  was x m z there (inl is) who leaving = record { old = x; there = there; who = sym who ∙ ap (λ (y : MemberState). y.who) is; leaving = sym leaving ∙ ap (λ (y : MemberState). y.known.leaving) is }
  was x m z there (inr none) who leaving = absurd (contains_none z none)

  answered : (m z : MemberState) (b c : Bool) → Contains h.members m → Contains (cond b (record m { joined = true } ∷ []) (cond c (record m { refused = true } ∷ []) [])) z → Was h z
  answered m z true c there at = was m (record m { joined = true }) z there (contains_cases (record m { joined = true }) [] z at) refl refl
  answered m z false true there at = was m (record m { refused = true }) z there (contains_cases (record m { refused = true }) [] z at) refl refl
  answered m z false false there at = absurd (contains_none z at)

  same : (m z : MemberState) (b : Bool) → Contains h.members m → Contains (cond b (member_answered h r m) (m ∷ [])) z → Was h z
  same m z true there at = answered m z (is_join_done r) (has_write_open h m.who.number) there at
  same m z false there at = was m m z there (contains_cases m [] z at) refl refl

  from : (z : MemberState) → Contains (flat_map (member_replying h job r) h.members) z → Was h z
  from z there = let x = in_flat (member_replying h job r) h.members z there in same x.0 z (is_joining x.0 && some_is (λ j. j == job) x.0.who.job) x.1 x.2

pub cut_same : (h : HostState) → IsCut h h
cut_same h = record { from = λ m there. record { old = m; there = there; who = refl; leaving = refl }; calls = λ c there. there; config = refl }

pub cut_more : (h f g : HostState) → IsCut h f → IsCut f g → IsCut h g
cut_more h f g one two =
    record {
      from = λ m there. (let z = two.from m there in let y = one.from z.old z.there in
          record { old = y.old; there = y.there; who = y.who ∙ z.who; leaving = y.leaving ∙ z.leaving });
      calls = λ c there. one.calls c (two.calls c there);
      config = two.config ∙ one.config;
    }

pub cut_move : (h : HostState) (move : Move) → IsCut h (with_move move h)
cut_move h move =
    record {
      from = λ m there. record { old = m; there = (kept_inside (λ (m : MemberState). not (is_ended_by_move move m)) h.members m there).0; who = refl; leaving = refl };
      calls = λ c there. there;
      config = refl;
    }

pub sound_reply : (h : HostState) (job : ℕ) (r : Reply) → IsSound h → IsSound (with_reply job r h)
sound_reply h job r k = sound_cut h (with_reply job r h) (cut_reply h job r) k

pub sound_move : (h : HostState) (move : Move) → IsSound h → IsSound (with_move move h)
sound_move h move k = sound_cut h (with_move move h) (cut_move h move) k

pub sound_removing : (name : List ℕ) (h : HostState) → IsSound h → IsSound (removing name h)
sound_removing name h k = by (list_any (λ n. bytes_eq n name) h.connected) where
  by : (b : Bool) → IsSound (cond b (with_move (Unregister name) h) h)
  by true = sound_move h (Unregister name) k
  by false = k

-- ---- calls

-- The call is its job's.
pub record CallIsOwn (h : HostState) (c : Submitted) : Type 0 where
  pub leaving : (m : MemberState) (j : ℕ) → Contains h.members m → m.known.leaving ≡ Some j → is_kept_of j (kept_call c) ≡ true → (c.call.session == m.who.number) ≡ true
  pub joining : (m : MemberState) (j : ℕ) → Contains h.members m → m.who.job ≡ Some j → is_kept_of j (kept_call c) ≡ true → ((c.call.session == m.who.number) ≡ true) × (is_delta_purpose c.call.purpose ≡ true)

called_from : (g : Layout) (c : Submitted) (m : MemberState) → ((member_calling g c m).who ≡ m.who) × ((member_calling g c m).known.leaving ≡ m.known.leaving)
called_from g c m = by (c.call.session == m.who.number) where
  by : (b : Bool)
      → ((cond b (record m { known = known_calling c m.known; joining = joining_calling c m.joining; leases = leases_calling g c m.leases }) m).who ≡ m.who)
      × ((cond b (record m { known = known_calling c m.known; joining = joining_calling c m.joining; leases = leases_calling g c m.leases }) m).known.leaving ≡ m.known.leaving)
  by true = (refl, refl)
  by false = (refl, refl)

pub called : (h : HostState) (c : Submitted) (m : MemberState) → Contains (map (member_calling h.config.layout c) h.members) m → Was h m
called h c m there =
    let z = in_map (member_calling h.config.layout c) h.members m there in
    record {
      old = z.0;
      there = z.1;
      who = sym (called_from h.config.layout c z.0).0 ∙ ap (λ (y : MemberState). y.who) z.2;
      leaving = sym (called_from h.config.layout c z.0).1 ∙ ap (λ (y : MemberState). y.known.leaving) z.2;
    }

last_or_old : (cs : List OpenCall) (d e : OpenCall) → Contains (cs ++ d ∷ []) e → Contains cs e ⊎ (d ≡ e)
last_or_old cs d e there = elim (in_either cs (d ∷ []) e there) [
  | inl old ↦ inl old
  | inr last ↦ elim (contains_cases d [] e last) [ inl is ↦ inr is | inr none ↦ absurd (contains_none e none) ]
]

pub sound_call : (h : HostState) (c : Submitted) → CallIsOwn h c → IsSound h → IsSound (calling c h)
sound_call h c new k =
    record {
      names = λ s t a b. k.names s t (whose h (calling c h) (called h c) s a) (whose h (calling c h) (called h c) t b);
      leavings = record {
        calls = λ m d j there inside leaves of. (let z = called h c m there in
            subst (λ (t : Session). (d.session == t.number) ≡ true) z.who (leaving z.old d j z.there (last_or_old h.unanswered (kept_call c) d inside) (z.leaving ∙ leaves) of));
        apart = λ m n j a b is it. (let y = called h c m a in let z = called h c n b in sym y.who ∙ k.leavings.apart y.old z.old j y.there z.there (y.leaving ∙ is) (z.leaving ∙ it) ∙ z.who);
        others = λ m n j a b is it. (let y = called h c m a in let z = called h c n b in k.leavings.others y.old z.old j y.there z.there (ap (λ (t : Session). t.job) y.who ∙ is) (z.leaving ∙ it));
      };
      joinings = record {
        calls = λ m d j there inside is of. (let z = called h c m there in
            let r = joining z.old d j z.there (last_or_old h.unanswered (kept_call c) d inside) (ap (λ (t : Session). t.job) z.who ∙ is) of in
            (subst (λ (t : Session). (d.session == t.number) ≡ true) z.who r.0, r.1));
        apart = λ m n j a b is it. (let y = called h c m a in let z = called h c n b in
            sym y.who ∙ k.joinings.apart y.old z.old j y.there z.there (ap (λ (t : Session). t.job) y.who ∙ is) (ap (λ (t : Session). t.job) z.who ∙ it) ∙ z.who);
      };
      laid = laid_as h (calling c h) refl (whose h (calling c h) (called h c)) k.laid;
    } where
      leaving : (z : MemberState) (d : OpenCall) (j : ℕ) → Contains h.members z → Contains h.unanswered d ⊎ (kept_call c ≡ d) → z.known.leaving ≡ Some j → is_kept_of j d ≡ true → (d.session == z.who.number) ≡ true
      leaving z d j there (inl old) leaves of = k.leavings.calls z d j there old leaves of
      leaving z d j there (inr is) leaves of = subst (λ (e : OpenCall). (e.session == z.who.number) ≡ true) is (new.leaving z j there leaves (subst (λ e. is_kept_of j e ≡ true) (sym is) of))

      joining : (z : MemberState) (d : OpenCall) (j : ℕ) → Contains h.members z → Contains h.unanswered d ⊎ (kept_call c ≡ d) → z.who.job ≡ Some j → is_kept_of j d ≡ true
          → ((d.session == z.who.number) ≡ true) × (is_delta_purpose d.purpose ≡ true)
      joining z d j there (inl old) job of = k.joinings.calls z d j there old job of
      joining z d j there (inr is) job of =
          subst (λ (e : OpenCall). ((e.session == z.who.number) ≡ true) × (is_delta_purpose e.purpose ≡ true)) is (new.joining z j there job (subst (λ e. is_kept_of j e ≡ true) (sym is) of))

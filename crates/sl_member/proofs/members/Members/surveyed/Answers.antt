use Rattle.sl_member.proofs.MembersByNumber.{changed_kept, changed_members, has_number, none_kept, run_kept}
use Rattle.sl_member.proofs.members.Members.surveyed.Goals as goal
use Rattle.sl_member.specs.Members.{MemberKept, RunOf}
use Rattle.sl_member.specs.HostMembers.{told_survey}
use Rattle.std.proofs.Common.{IsTrue, ap, length, position, refl, subst, sym, ◌*◌, ◌≡◌, ◌∙◌}

pub invariant_of-self : goal.invariant_of-self
invariant_of-self g c =
    let x : MemberKept = c.index_mut.result.now in
    let i = c.self.invariant in (
      changed_members _ c.self.inside.room c.self.inside.items.items c.args.number c.in-Some.place (told_survey c.args.self.now.run c.args.before c.args.after (g.S.Sectors.bytes c.args.sectors.now)) c.index_mut.result.now _ i.0 (sym (c.place_of.ensures.exact ∙ ap (λ ms. position (has_number c.args.number) ms) c.deref.ensures.value) ∙ c.in-Some.is)
          c.index_mut.ensures.value (record {
            made = (c.surveyed.ensures
                ∙ ap (λ (r : RunOf). record x { state = told_survey r c.args.before c.args.after (g.S.Sectors.bytes c.args.sectors.now) c.index_mut.result.now.state })
                (run_kept c.args.self.now _ c.self.inside.items.items c.self.inside.most c.self.inside.room c.args.number c.in-Some.place x c.self.invariant.0
                (sym (c.place_of.ensures.exact ∙ ap (λ ms. position (has_number c.args.number) ms) c.deref.ensures.value) ∙ c.in-Some.is) c.index_mut.ensures.value c.self.view_is));
            who = λ s. refl;
          }),
      i.1,
      i.2,
    )

pub returns-in-Some : goal.returns-in-Some
returns-in-Some g c =
    let x : MemberKept = c.index_mut.result.now in
    changed_kept c.args.self.now _ c.self.inside.items.items c.self.inside.most c.self.inside.room c.args.number c.in-Some.place (told_survey c.args.self.now.run c.args.before c.args.after (g.S.Sectors.bytes c.args.sectors.now)) c.index_mut.result.now _
    c.self.invariant.0 (sym (c.place_of.ensures.exact ∙ ap (λ ms. position (has_number c.args.number) ms) c.deref.ensures.value) ∙ c.in-Some.is) c.index_mut.ensures.value (c.surveyed.ensures
    ∙ ap (λ (r : RunOf). record x { state = told_survey r c.args.before c.args.after (g.S.Sectors.bytes c.args.sectors.now) c.index_mut.result.now.state })
    (run_kept c.args.self.now _ c.self.inside.items.items c.self.inside.most c.self.inside.room c.args.number c.in-Some.place x c.self.invariant.0
    (sym (c.place_of.ensures.exact ∙ ap (λ ms. position (has_number c.args.number) ms) c.deref.ensures.value) ∙ c.in-Some.is) c.index_mut.ensures.value c.self.view_is)) c.self.view_is

pub returns-in-None : goal.returns-in-None
returns-in-None g c =
    none_kept c.args.self.now _ c.self.inside.items.items c.self.inside.most c.self.inside.room c.args.number (told_survey c.args.self.now.run c.args.before c.args.after (g.S.Sectors.bytes c.args.sectors.now)) (sym (c.place_of.ensures.exact ∙ ap (λ ms. position (has_number c.args.number) ms) c.deref.ensures.value) ∙ c.in-None.is) c.self.view_is

pub surveyed-requires-clause-cut : goal.surveyed-requires-clause-cut
surveyed-requires-clause-cut g c =
    let x : MemberKept = c.index_mut.result.now in
    subst (λ (r : RunOf). IsTrue (g.S.Sectors.is_cut c.args.sectors.now r.sizes.sector)) (sym (run_kept c.args.self.now _ c.self.inside.items.items c.self.inside.most c.self.inside.room c.args.number c.in-Some.place x c.self.invariant.0
    (sym (c.place_of.ensures.exact ∙ ap (λ ms. position (has_number c.args.number) ms) c.deref.ensures.value) ∙ c.in-Some.is) c.index_mut.ensures.value c.self.view_is)) c.requires.cut

pub surveyed-requires-clause-many : goal.surveyed-requires-clause-many
surveyed-requires-clause-many g c =
    let x : MemberKept = c.index_mut.result.now in
    subst (λ (r : RunOf). length (g.S.Sectors.bytes c.args.sectors.now) ≡ r.sizes.hosts * r.sizes.sector) (sym (run_kept c.args.self.now _ c.self.inside.items.items c.self.inside.most c.self.inside.room c.args.number c.in-Some.place x c.self.invariant.0
    (sym (c.place_of.ensures.exact ∙ ap (λ ms. position (has_number c.args.number) ms) c.deref.ensures.value) ∙ c.in-Some.is) c.index_mut.ensures.value c.self.view_is)) c.requires.many

use Rattle.sl_live_run.proofs.RunLaws.{begun_all, fresh_more, one_begun}
use Rattle.sl_live_run.proofs.begun.begin.Goals as goal
use Rattle.sl_live_run.specs.Runs.{disks_in, disks_of, site_of, spawner_of}
use Rattle.std.proofs.Common.{ap, map, sym, ◌∙◌}
use Rattle.std.proofs.lemmas.Iterator.Adapters.{YieldsList-from_vec}
use Rattle.std.proofs.lemmas.Iterator.Consumers.{YieldsList-end}
use Rattle.std.proofs.lemmas.List.{map-id}

pub loop-ready-preserved : goal.loop-ready-preserved
loop-ready-preserved g c =
    let add = c.in_ok-add.ensures in
    record {
      machines = one_begun c.loop-ready.begun.machines.items c.add.new.self.machines.items add.0 c.work_of-work.result c.loop-ready.yielded c.in-Some.ready (λ w. w.site) (λ p. p.site) add.2
          add.1 c.work_of-work.ensures.site c.loop-ready.invariant.machines;
      disks = one_begun c.loop-ready.begun.machines.items c.add.new.self.machines.items add.0 c.work_of-work.result c.loop-ready.yielded c.in-Some.ready (λ w. disks_in w.parts)
          (λ p. disks_in p.parts) add.2 add.1 (ap (λ p. disks_in p) c.work_of-work.ensures.parts) c.loop-ready.invariant.disks;
      spawners = one_begun c.loop-ready.begun.machines.items c.add.new.self.machines.items add.0 c.work_of-work.result c.loop-ready.yielded c.in-Some.ready (λ w. w.parts.spawner)
          (λ p. p.parts.spawner) add.2 add.1 (ap (λ p. p.spawner) c.work_of-work.ensures.parts) c.loop-ready.invariant.spawners;
      fresh = fresh_more c.loop-ready.begun.machines.items c.add.new.self.machines.items add.0 c.work_of-work.result add.2 add.1
          (c.work_of-work.ensures.by ∙ c.in_ok-place.ensures ∙ c.len.ensures ∙ c.loop-ready.begun.machines.ok.0) c.work_of-work.ensures.fresh c.loop-ready.invariant.fresh;
    }

pub returns-clause-sites : goal.returns-clause-sites
returns-clause-sites g c =
    let from = c.into_iter-ready-iterator.ensures.into_iter_gives in
    let all = YieldsList-end (YieldsList-from_vec c.args.prepared.items from.0 (from.1 ∙ c.args.prepared.ok.0)) c.loop-ready.yielded c.loop-ready.ready-iterator c.loop-ready.yielded_by c.next.result c.next.new.self c.in-None.is
    c.next.ensures.steps in
    begun_all (map site_of c.loop-ready.begun.machines.items) c.loop-ready.yielded c.args.prepared.items (λ p. p.site) c.loop-ready.invariant.machines (sym (map-id c.loop-ready.yielded) ∙ all.0)

pub returns-clause-disks : goal.returns-clause-disks
returns-clause-disks g c =
    let from = c.into_iter-ready-iterator.ensures.into_iter_gives in
    let all = YieldsList-end (YieldsList-from_vec c.args.prepared.items from.0 (from.1 ∙ c.args.prepared.ok.0)) c.loop-ready.yielded c.loop-ready.ready-iterator c.loop-ready.yielded_by c.next.result c.next.new.self c.in-None.is
    c.next.ensures.steps in
    begun_all (map disks_of c.loop-ready.begun.machines.items) c.loop-ready.yielded c.args.prepared.items (λ p. disks_in p.parts) c.loop-ready.invariant.disks
    (sym (map-id c.loop-ready.yielded) ∙ all.0)

pub returns-clause-spawners : goal.returns-clause-spawners
returns-clause-spawners g c =
    let from = c.into_iter-ready-iterator.ensures.into_iter_gives in
    let all = YieldsList-end (YieldsList-from_vec c.args.prepared.items from.0 (from.1 ∙ c.args.prepared.ok.0)) c.loop-ready.yielded c.loop-ready.ready-iterator c.loop-ready.yielded_by c.next.result c.next.new.self c.in-None.is
    c.next.ensures.steps in
    begun_all (map spawner_of c.loop-ready.begun.machines.items) c.loop-ready.yielded c.args.prepared.items (λ p. p.parts.spawner) c.loop-ready.invariant.spawners
    (sym (map-id c.loop-ready.yielded) ∙ all.0)

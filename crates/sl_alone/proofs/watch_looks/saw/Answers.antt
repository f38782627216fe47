use Rattle.sl_watch.proofs.WatchLaws.{looks_stand}
use Rattle.sl_alone.proofs.watch_looks.saw.Goals as goal
use Rattle.sl_watch.specs.SeenLooks.{sightings_of}

pub returns-clause-looks : goal.returns-clause-looks
returns-clause-looks c =
    λ looks stands true_read. looks_stand c.told.new.self c.args.id c.args.before c.args.after c.args.sector.now looks
    (c.told.ensures.stands (λ id. sightings_of id looks) c.args.sector.now stands c.record.ensures.found c.requires.sector true_read)

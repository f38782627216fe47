use Rattle.sl_lease.proofs.ReadLaws.{given_with_pairs, merged_places}
use Rattle.sl_lease.proofs.block_reads.Blocks.put_in_places.Goals as goal
use Rattle.sl_lease.specs.Reads.{ReadRoom, blocks_of_pairs, merged_with}
use Rattle.std.proofs.Common.{ap, length, sym, ◌∙◌, ◌≡◌}
use Rattle.std.specs.Option.{option_map_or}

pub fill-requires : goal.fill-requires
fill-requires c =
    let old : ReadRoom = c.args.self.now in
    let mid : ReadRoom = c.merge.new.self in
    let merged : mid ≡ record old { pairs = option_map_or (λ ps. merged_with ps.now old.pairs) c.args.first old.pairs } = c.merge.ensures in
    ap (λ (r : ReadRoom). length r.blocks) merged
    ∙ merged_places (λ ps. ps.now) c.args.geometry.now c.args.first old (sym c.is_paired.ensures.exact ∙ c.if-not-is_paired.false) c.requires
    ∙ sym (ap (λ (r : ReadRoom). length r.pairs) merged)

pub returns : goal.returns
returns c =
    λ last has.
    let old : ReadRoom = c.args.self.now in
    let mid : ReadRoom = c.merge.new.self in
    let new : ReadRoom = c.fill.new.self in
    let merged : mid ≡ record old { pairs = option_map_or (λ ps. merged_with ps.now old.pairs) c.args.first old.pairs } = c.merge.ensures in
    let filled : new ≡ record mid { blocks = blocks_of_pairs mid.pairs } = c.fill.ensures in
    given_with_pairs (λ ps. ps.now) c.args.geometry.now c.args.first last old new (sym c.is_paired.ensures.exact ∙ c.if-not-is_paired.false)
    (ap (λ (r : ReadRoom). r.pairs) filled ∙ ap (λ (r : ReadRoom). r.pairs) merged)
    (ap (λ (r : ReadRoom). r.blocks) filled ∙ ap blocks_of_pairs (sym (ap (λ (r : ReadRoom). r.pairs) filled)))
    (ap (λ (r : ReadRoom). r.kept) filled ∙ ap (λ (r : ReadRoom). r.kept) merged) has

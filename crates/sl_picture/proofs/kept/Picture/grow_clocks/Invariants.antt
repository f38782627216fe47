use Rattle.sl_picture.proofs.kept.Picture.grow_clocks.Given as goal
use Rattle.sl_picture.specs.Events.{clocks_grown}
use Rattle.sl_text.specs.Forms.{words_of}
use Rattle.std.proofs.Common.{drop, length, ◌+◌, ◌≡◌}

abbrev pub invariant-loop-index : goal.invariant-loop-index
invariant-loop-index l = record {
  words : l.words.words ≡ drop (l.index + 2) (words_of l.line);
  grown : l.self ≡ clocks_grown l.line l.time l.index l.fn.self;
  lanes : length l.self.lanes ≡ length l.fn.self.lanes;
}

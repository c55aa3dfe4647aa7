use Rattle.std.proofs.Common.{◌≡◌, take}
use Rattle.write_buffer.specs.layer.Buffer.{last_place}
use Rattle.write_buffer.proofs.buffer.WriteBuffer.find.Given as goal

-- none of the younger ones has the location
abbrev pub invariant-loop-at : goal.invariant-loop-at
invariant-loop-at l = last_place l.loc l.self ≡ last_place l.loc (take l.at l.self)

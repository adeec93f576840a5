use Rattle.qrcode_layout.proofs.FreeCounts.{free_places_are_filled}
use Rattle.qrcode_layout.proofs.FreePlaces.{free_places_are_apart, free_places_are_whole}
use Rattle.qrcode_layout.proofs.LeftOut.{left_out_is_functional}
use Rattle.qrcode_layout.proofs.Zigzag.{walk_is_inside, walk_is_apart, walk_is_whole}
use Rattle.qrcode_layout.proofs.laws.free_places.Goals as goal

pub returns-clause-inside : goal.returns-clause-inside
returns-clause-inside c = walk_is_inside

pub returns-clause-walk_apart : goal.returns-clause-walk_apart
returns-clause-walk_apart c = walk_is_apart

pub returns-clause-walk_whole : goal.returns-clause-walk_whole
returns-clause-walk_whole c = walk_is_whole

pub returns-clause-left_out : goal.returns-clause-left_out
returns-clause-left_out c = left_out_is_functional

pub returns-clause-apart : goal.returns-clause-apart
returns-clause-apart c = free_places_are_apart

pub returns-clause-whole : goal.returns-clause-whole
returns-clause-whole c = free_places_are_whole

pub returns-clause-filled : goal.returns-clause-filled
returns-clause-filled c = free_places_are_filled

-- `code_point::point_size` meets its contract.
-- Assumes nothing.
use Rattle.code_point.proofs.PointCode.{size_ways}
use Rattle.code_point.proofs.point_size.Goals as goal

pub returns-in-0-to-127 : goal.returns-in-0-to-127
returns-in-0-to-127 c = search size_ways

pub returns-in-128-to-2047 : goal.returns-in-128-to-2047
returns-in-128-to-2047 c = search size_ways

pub returns-in-2048-to-65535 : goal.returns-in-2048-to-65535
returns-in-2048-to-65535 c = search size_ways

pub returns-in_default : goal.returns-in_default
returns-in_default c = search size_ways

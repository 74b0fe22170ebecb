use Rattle.pix_scale.proofs.ScaledLaws.{filters_add_up, scaled_le, scaled_const}
use Rattle.pix_scale.proofs.Singles.{scaled_own, scaled_times}
use Rattle.pix_scale.proofs.Mirrors.{area_columns, scaled_turned, mirrored, sum_by_turned}
use Rattle.pix_scale.proofs.SignedLaws.{cut_premultiplied, cut_value, signed_adds_up, own_size}
use Rattle.pix_scale.proofs.laws.laws.Goals as goal

pub returns : goal.returns
returns c = record { weights = filters_add_up; order = scaled_le; value = scaled_const; size = scaled_own; nearest = scaled_times; areas = area_columns; turned = scaled_turned; mirrored = mirrored; premultiplied = cut_premultiplied; signed_value = cut_value; signed_turned = sum_by_turned; signed_weights = signed_adds_up; signed_size = own_size }

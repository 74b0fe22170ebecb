-- Sizes that a raster cannot have.
use Rattle.std.specs.Prelude.{ℕ, ◌*◌, Option, Some, None, if◌then◌else◌, nat_lt}
use Rattle.pix_raster.specs.Region.{limit}
use Rattle.pix_raster.specs.declared.fault.RasterFault.{RasterFault}
use Rattle.pix_raster.specs.declared.fault.RasterFault.TheVariants.{WidthTooBig, HeightTooBig, TooBig}

-- the first fault of a size, if it has one
abbrev pub size_fault : ℕ → ℕ → Option RasterFault
size_fault width height =
    if nat_lt limit width then Some WidthTooBig
    else (if nat_lt limit height then Some HeightTooBig
    else (if nat_lt limit (width * height) then Some TooBig
    else None))

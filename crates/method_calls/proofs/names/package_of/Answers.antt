use Rattle.method_calls.proofs.Naming.{short_fits, package_is}
use Rattle.method_calls.proofs.names.package_of.Goals as goal

pub slice_bounds-result-count : goal.slice_bounds-result-count
slice_bounds-result-count c = short_fits c.args.name.now.0 c.as_slice-bytes.result.now c.short_name_of-short.result.now c.as_slice-bytes.ensures c.short_name_of-short.ensures

pub returns : goal.returns
returns c = package_is c.args.name.now.0 c.as_slice-bytes.result.now c.short_name_of-short.result.now c.as_slice-bytes.ensures c.short_name_of-short.ensures
